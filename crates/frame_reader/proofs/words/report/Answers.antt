use Rattle.std.proofs.Common.{◌≡◌, ◌+◌, [], ◌∷◌, ◌++◌, length, string_bytes, sym, ap, ◌∙◌, subst, arith, rules}
use Rattle.lines.specs.Lines.{lines_of}
use Rattle.lines.specs.Reader.{to_come}
use Rattle.frame_reader.specs.Words.{Reports, Says}
use Rattle.frame_reader.proofs.Reported.{report_more, report_all}
use Rattle.frame_reader.proofs.words.report.Goals as goal

pub loop-index-init : goal.loop-index-init
loop-index-init c =
    let start = c.into_iter-index-iterator.ensures.into_iter_gives in
    let none = ap (λ s. s.count) start ∙ c.enumerate-index-items.ensures.count in
    let all = ap (λ s. to_come s.iter) start ∙ ap to_come c.enumerate-index-items.ensures.source ∙ c.new.ensures.all in (
      λ rest said. subst (λ bytes. Reports 1 (lines_of c.args.text.now) (bytes ++ rest)) (sym c.new-all.ensures.bytes)
          (subst (λ n. Reports (n + 1) (lines_of c.args.text.now) rest) none
          (subst (λ lines. Reports (c.into_iter-index-iterator.result.count + 1) lines rest) all said)),
      omega (arith, ap length all, none, c.new.ensures.bound),
    )

pub loop-index-preserved : goal.loop-index-preserved
loop-index-preserved c =
    let step = c.in-Some.ensures.steps in
    let says = subst (λ n. Says (n + 1) c.in-Some.line.now (string_bytes c.in_ok-words.words)) step.1 c.in_ok-words.ensures in
    let next : string_bytes c.push.new.self ≡ (string_bytes c.loop-index.all ++ string_bytes c.in_ok-words.words) ++ 10 ∷ [] =
    search rules in (
      λ rest said. report_more (Reports 1 (lines_of c.args.text.now)) (c.loop-index.index-iterator.count + 1) _ _
          c.loop-index.invariant.0 c.in-Some.line.now _ _ _ step.0 says next rest
          (subst (λ n. Reports (n + 1) (to_come c.next.new.self.iter) rest) step.2 said),
      omega (arith, c.loop-index.invariant.1, ap length step.0, step.2),
    )

pub returns : goal.returns
returns c =
    report_all (Reports 1 (lines_of c.args.text.now)) (c.loop-index.index-iterator.count + 1) _ _ c.loop-index.invariant.0
    c.in-None.ensures.steps.0.0
