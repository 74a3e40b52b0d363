use Rattle.std.proofs.Common.{◌≡◌, length}
use Rattle.optimum.specs.Method.{Boxed}
use Rattle.solver.specs.Plans.{los, his, settings}
use Rattle.solver.proofs.narrow.narrow.Given as goal

abbrev pub invariant-loop-done : goal.invariant-loop-done
invariant-loop-done g l = (length l.ranges ≡ 65) × Boxed (g.B.Book.meaning l.book) g.B.Cost.Amount.le (settings l.plan) (los l.ranges) (his l.ranges) l.done
