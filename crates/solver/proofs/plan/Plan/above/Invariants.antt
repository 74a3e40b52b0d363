use Rattle.std.proofs.Common.{◌≡◌, ℕ, ◌<◌, length}
use Rattle.solver.specs.Plans.{at, los, his}
use Rattle.solver.proofs.plan.Plan.above.Given as goal

abbrev pub invariant-loop-leg : goal.invariant-loop-leg
invariant-loop-leg l = (length l.ranges ≡ 65) × (his l.ranges ≡ his l.self.bounds) × ((j : ℕ) → j < l.leg → los l.ranges j ≡ at l.minutes j)
