use Rattle.std.proofs.Common.{◌≡◌, length}
use Rattle.solver.specs.Plans.{settings}
use Rattle.solver.proofs.Places.{Legwise}
use Rattle.solver.proofs.Spans.{Clips}
use Rattle.solver.proofs.course.Course.clip.Given as goal

abbrev pub invariant-loop-k : goal.invariant-loop-k
invariant-loop-k l = (length l.range-items ≡ l.self.legs) × Legwise (Clips l.self.legs (settings l.self.plan.now)) (record { lo = 0; hi = 0 }) l.range-items l.k
