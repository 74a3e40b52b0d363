use Rattle.std.proofs.Common.{◌≡◌, ℕ, ◌<◌, ◌≤◌, length}
use Rattle.solver.specs.Plans.{at, settings}
use Rattle.solver.specs.Pricing.{FairUp, Rises, Falls}
use Rattle.solver.proofs.pricing.carry_left.Given as goal

abbrev pub invariant-loop-k : goal.invariant-loop-k
invariant-loop-k g l = let b = g.B.Book.meaning l.book in FairUp b g.B.Cost.Amount.le (settings l.plan) (at l.minutes) b.legs l.prices × ((j : ℕ) → 1 ≤ j → j < b.legs → Rises b g.B.Cost.Amount.le (settings l.plan) (at l.minutes) l.prices j) × ((j : ℕ) → l.k ≤ j → j < b.legs → Falls b g.B.Cost.Amount.le (settings l.plan) (at l.minutes) l.prices j) × (length l.prices ≡ 65)
