use Rattle.std.proofs.Common.{arith}
use Rattle.states.specs.States.{lent}
use Rattle.sheet.proofs.Running.{cut_length, one_answer, going_from, going_on}
use Rattle.sheet.proofs.calls.run_into.Goals as goal

pub loop-k-init : goal.loop-k-init
loop-k-init g c = let made = c.new-sheet.ensures in going_from c.new-sheet.result.book c.new-sheet.result.state made.over made.blank made.sound

pub loop-k-preserved : goal.loop-k-preserved
loop-k-preserved g c =
    let room = lent c.args.minutes.now c.args.amounts.now in
    let minutes = cut_length _ c.min-m.result room.minutes c.loop-k.minutes c.min-m.ensures c.loop-k.auto.minutes in
    let amounts = cut_length _ c.min-a.result room.amounts c.loop-k.amounts c.min-a.ensures c.loop-k.auto.amounts in
    let more = c.loop-k-test.true in
    let long = c.loop-k.auto.answers in
    let found = c.in-Some.ensures.lookup in
    going_on c.loop-k.k c.loop-k.sheet.book _ _ _ c.loop-k.answers c.in-Some.asked.now _ c.call.result
    c.loop-k.invariant found.3.0 (omega arith) found.1
    (λ i. record { minutes = minutes i; amounts = amounts i })
    c.call.ensures.over c.call.ensures.carried

pub returns-after-loop-k-clause-one : goal.returns-after-loop-k-clause-one
returns-after-loop-k-clause-one g c = one_answer g.met.B.Cost.Amount.order (g.B.Book.meaning c.args.book)

pub returns-in_default-clause-one : goal.returns-in_default-clause-one
returns-in_default-clause-one g c = one_answer g.met.B.Cost.Amount.order (g.B.Book.meaning c.args.book)
