-- Prices on the way to the price rule.
-- Assumes nothing.
use Rattle.std.specs.Prelude.{ℕ, ◌+◌, ◌-◌, ◌<◌, ◌≤◌, List}
use Rattle.amounts.specs.Rows.{Row}
use Rattle.books.specs.Meaning.{Meaning, IsLeg, step}
use Rattle.optimum.specs.declared.Price.{Price}
use Rattle.optimum.specs.Prices.{Named, worth}
use Rattle.optimum.specs.Rotation.{Settings, reached, earliest, latest, Cheapest}
use Rattle.optimum.specs.Method.{Fits, Safe}
use Rattle.solver.specs.Plans.{at, price_at, settings}
use Rattle.solver.specs.declared.plan.Plan.{Plan}

-- minutes that are a cheapest timing of a plan whose bounds lie in the book's ends
pub record Timed (b : Meaning) (le : Row → Row → Type 0) (p : Plan) (xs : List ℕ) : Type 0 where
  pub fits : Fits b (settings p)
  pub cheapest : Cheapest b le (settings p) (at xs)

-- a price that no leg's next step undercuts
pub record Floor (b : Meaning) (le : Row → Row → Type 0) (s : Settings) (x : ℕ → ℕ) (p : Price) : Type 0 where
  pub named : Named b p
  pub least : (i : ℕ) → IsLeg b i → x i < s.high i → le (worth b p) (step b i (x i))

-- a price that leg i may have: named, safe, and at least the step that leg i took last
pub record Fair (b : Meaning) (le : Row → Row → Type 0) (s : Settings) (x : ℕ → ℕ) (i : ℕ) (p : Price) : Type 0 where
  pub named : Named b p
  pub safe : Safe b le s x (worth b p) i
  pub covers : s.low i < x i → le (step b i (x i - 1)) (worth b p)

-- every leg of 1 to k has such a price
abbrev pub FairUp : Meaning → (Row → Row → Type 0) → Settings → (ℕ → ℕ) → ℕ → List Price → Type 0
FairUp b le s x k ps = (i : ℕ) → 1 ≤ i → i ≤ k → Fair b le s x i (price_at ps i)

-- prices do not fall over a stop k that is reached after its window opens
abbrev pub Rises : Meaning → (Row → Row → Type 0) → Settings → (ℕ → ℕ) → List Price → ℕ → Type 0
Rises b le s x ps k = earliest b.legs s k < reached x k → le (worth b (price_at ps k)) (worth b (price_at ps (k + 1)))

-- prices do not rise over a stop k that is reached before its window shuts
abbrev pub Falls : Meaning → (Row → Row → Type 0) → Settings → (ℕ → ℕ) → List Price → ℕ → Type 0
Falls b le s x ps k = reached x k < latest b.legs s k → le (worth b (price_at ps (k + 1))) (worth b (price_at ps k))
