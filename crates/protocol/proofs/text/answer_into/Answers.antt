use Rattle.std.proofs.Common.{◌≡◌, ℕ, ◌+◌, ◌^◌, ◌<◌, ◌≤◌, [], ◌∷◌, ◌++◌, length, take, vec_items, sym, refl, ap, ◌∙◌, subst, inl, append_assoc, append-nil, arith, length-append, length-take}
use Rattle.std.specs.Iterator.Adapters.{enumerate_source, enumerate_count}
use Rattle.answers.specs.Meaning.{meant}
use Rattle.answers.specs.Spelling.{spelled}
use Rattle.lines.specs.Lines.{lines_of}
use Rattle.lines.specs.Reader.{to_come}
use Rattle.states.specs.States.{lent}
use Rattle.protocol.specs.Conversation.{Answers, Line}
use Rattle.protocol.specs.Desks.{stage, reply}
use Rattle.protocol.specs.Faults.{told}
use Rattle.protocol.proofs.Conversing.{answers_more, answers_all}
use Rattle.protocol.proofs.text.answer_into.Goals as goal

pub loop-index-init : goal.loop-index-init
loop-index-init c =
    let it = c.into_iter-index-iterator.result in
    let same = c.into_iter-index-iterator.ensures.into_iter_gives in
    let all = ap (λ i. to_come (enumerate_source i)) same ∙ ap to_come c.enumerate-index-items.ensures.source ∙ c.new.ensures.all in
    let none : enumerate_count it ≡ 0 = ap enumerate_count same ∙ c.enumerate-index-items.ensures.count in
    let few : enumerate_count it + length (to_come (enumerate_source it)) ≤ 65535 =
    omega (arith, ap length all, c.new.ensures.bound, ap length c.start_of.ensures, length-take 65535 c.args.text.now, none) in
    let fits : enumerate_count it + length (to_come (enumerate_source it)) < 2 ^ 64 = omega arith in (
      (tt, tt, inl fits),
      tt,
      ([], sym (append-nil _), λ rest said. rw none at said),
      few,
      λ free. free,
    )

pub loop-index-preserved : goal.loop-index-preserved
loop-index-preserved c =
    let room = lent c.args.minutes.now c.args.amounts.now in
    let same : lent c.loop-index.minutes c.loop-index.amounts ≡ room = λ i. record { minutes = c.loop-index.auto.minutes i; amounts = c.loop-index.auto.amounts i } in
    let n : ℕ = enumerate_count c.loop-index.index-iterator + 1 in
    let step = c.in-Some.ensures.steps.0 in
    let counted = c.in-Some.ensures.steps.2 in
    let wrote = c.in_ok-write.ensures in
    let so_far = c.loop-index.invariant.2 in
    let line = spelled (meant c.answer_of.result) ++ 10 ∷ [] in
    let told-as = reply told n c.answer-outcome.result in
    let answered = subst (λ areas. Line areas (stage c.loop-index.desk) c.in-Some.line.now told-as n (stage c.answer-outcome.new.self)) same (c.answer-outcome.ensures n) in
    let numbered : c.in-Some.index + 1 ≡ n = omega (arith, c.in-Some.ensures.steps.1, c.loop-index.invariant.3, ap length step) in
    let few : enumerate_count c.next.new.self + length (to_come (enumerate_source c.next.new.self)) ≤ 65535 = omega (arith, c.loop-index.invariant.3, ap length step) in
    let fits : enumerate_count c.next.new.self + length (to_come (enumerate_source c.next.new.self)) < 2 ^ 64 = omega arith in (
      (tt, tt, inl fits),
      tt,
      (
        so_far.0 ++ line,
        wrote.items ∙ ap (λ t. t ++ line) so_far.1 ∙ append_assoc (vec_items c.args.out.now) so_far.0 line,
        λ rest said. answers_more (Answers room 1 (stage c.new-desk.result) (to_come (enumerate_source c.into_iter-index-iterator.result))) room n (stage c.loop-index.desk) (to_come (enumerate_source c.loop-index.index-iterator)) so_far.0 so_far.2
            c.in-Some.line.now (to_come (enumerate_source c.next.new.self)) (stage c.answer-outcome.new.self) told-as (meant c.answer_of.result) (so_far.0 ++ line)
            step answered (c.answer_of.ensures ∙ ap (λ k. reply told k c.answer-outcome.result) numbered) wrote.spells refl rest (rw counted at said),
      ),
      few,
      λ free. omega (
        arith,
        c.loop-index.invariant.4 free,
        ap length step,
        wrote.capacity,
        wrote.short,
        ap length wrote.items,
        length-append (vec_items c.loop-index.out) line,
        length-append (spelled (meant c.answer_of.result)) (10 ∷ []),
        c.loop-index.out.ok.0,
        c.write.new.text.ok.0,
      ),
    )

pub returns-clause-answers : goal.returns-clause-answers
returns-clause-answers c =
    let room = lent c.args.minutes.now c.args.amounts.now in
    let so_far = c.loop-index.invariant.2 in
    let it = c.into_iter-index-iterator.result in
    let all : to_come (enumerate_source it) ≡ lines_of (take 65535 c.args.text.now) =
    ap (λ i. to_come (enumerate_source i)) c.into_iter-index-iterator.ensures.into_iter_gives ∙ ap to_come c.enumerate-index-items.ensures.source
    ∙ c.new.ensures.all ∙ ap lines_of c.start_of.ensures in
    let start = stage c.new-desk.result in (
      so_far.0,
      so_far.1,
      (
        start,
        c.new-desk.ensures,
        subst (λ lines. Answers room 1 start lines so_far.0) all
            (answers_all (Answers room 1 start (to_come (enumerate_source it))) room (enumerate_count c.loop-index.index-iterator + 1) (stage c.loop-index.desk) (to_come (enumerate_source c.loop-index.index-iterator)) so_far.0 so_far.2 c.in-None.ensures.steps.0.0),
      ),
    )
