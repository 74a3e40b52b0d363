use Rattle.std.proofs.Common.{◌≡◌, ◌*◌, ◌≤◌, length}
use Rattle.optimum.specs.Rotation.{reached}
use Rattle.solver.specs.Plans.{at}
use Rattle.solver.proofs.Places.{Legwise}
use Rattle.solver.proofs.course.Course.arrivals.Given as goal

abbrev pub invariant-loop-k : goal.invariant-loop-k
invariant-loop-k l = let x = at l.minutes in (length l.arrival-items ≡ l.self.legs) × (l.total ≡ reached x l.k) × (l.total ≤ 65535 * l.k) × Legwise (λ i v. v ≡ reached x i) 0 l.arrival-items l.k
