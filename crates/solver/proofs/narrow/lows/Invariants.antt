use Rattle.std.proofs.Common.{◌≡◌, ℕ, ◌<◌, length}
use Rattle.solver.specs.Plans.{at, los}
use Rattle.solver.proofs.narrow.lows.Given as goal

abbrev pub invariant-loop-leg : goal.invariant-loop-leg
invariant-loop-leg l = (length l.low-items ≡ 65) × ((j : ℕ) → j < l.leg → at l.low-items j ≡ los l.ranges j)
