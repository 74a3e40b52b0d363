use Rattle.solver.specs.Steps.{Before, edge_row}
use Rattle.solver.proofs.Leading.{Found}
use Rattle.solver.proofs.steps.Front.leader.Given as goal

abbrev pub invariant-loop-k : goal.invariant-loop-k
invariant-loop-k g l = Found (Before g.W.Way.goes g.B.Cost.Amount.le) g.B.Cost.Amount.row (edge_row (g.B.Book.meaning l.book) g.W.Way.goes l.self.ranges.now) l.self.ranges.now l.k l.best
