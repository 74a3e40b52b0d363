use Rattle.std.proofs.Common.{◌≡◌, ℕ, ◌≤◌}
use Rattle.books.specs.Meaning.{Priced}
use Rattle.optimum.specs.Rotation.{spent}
use Rattle.states.specs.Costs.{flown}
use Rattle.states.proofs.cost.cost_of.Given as goal

abbrev pub invariant-loop-k : goal.invariant-loop-k
invariant-loop-k g l = let b = g.B.Book.meaning l.book in (g.B.Cost.Amount.row l.total ≡ spent b (flown l.minutes) l.k) × ((i : ℕ) → 1 ≤ i → i ≤ l.k → Priced b i (flown l.minutes i))
