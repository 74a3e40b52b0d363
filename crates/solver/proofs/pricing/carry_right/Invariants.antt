use Rattle.std.proofs.Common.{◌≡◌, ℕ, ◌<◌, ◌≤◌, length}
use Rattle.solver.specs.Plans.{at, settings}
use Rattle.solver.specs.Pricing.{FairUp, Rises}
use Rattle.solver.proofs.pricing.carry_right.Given as goal

abbrev pub invariant-loop-k : goal.invariant-loop-k
invariant-loop-k g l = FairUp (g.B.Book.meaning l.book) g.B.Cost.Amount.le (settings l.plan) (at l.minutes) (g.B.Book.meaning l.book).legs l.prices × ((j : ℕ) → 1 ≤ j → j < l.k → Rises (g.B.Book.meaning l.book) g.B.Cost.Amount.le (settings l.plan) (at l.minutes) l.prices j) × (length l.prices ≡ 65)
