use Rattle.solver.specs.Steps.{AtHand}
use Rattle.solver.proofs.steps.Front.gather.Given as goal

abbrev pub invariant-loop-k : goal.invariant-loop-k
invariant-loop-k g l = AtHand g.B.Cost.Amount.row (g.B.Book.meaning l.book) g.W.Way.goes l.self.ranges.now l.k l.steps
