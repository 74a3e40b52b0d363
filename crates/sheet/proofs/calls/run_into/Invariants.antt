use Rattle.states.specs.States.{lent}
use Rattle.sheet.proofs.Running.{Going}
use Rattle.sheet.proofs.calls.run_into.Given as goal

abbrev pub invariant-loop-k : goal.invariant-loop-k
invariant-loop-k g l =
    Going g.B.Book.meaning g.B.Cost.Amount.le g.B.Cost.Amount.row (lent l.initial.minutes l.initial.amounts) l.calls l.initial.answers l.fn.book l.k l.sheet.book l.sheet.state l.answers
