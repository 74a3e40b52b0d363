-- The price rule: prices of a minute, one for each leg, that show a timing to be cheapest.
-- Assumes nothing.
use Rattle.std.specs.Prelude.{◌≡◌, ℕ, ◌+◌, ◌<◌, ◌≤◌, cond, ◌⊎◌, pos, ◌-ℤ◌, ◌==◌}
use Rattle.amounts.specs.Rows.{Row, none, plus, times}
use Rattle.books.specs.Meaning.{Meaning, IsLeg, step}
use Rattle.optimum.specs.declared.Price.{Price}
use Rattle.optimum.specs.Rotation.{Settings, reached, earliest, latest}

-- a price names a step of the book, or zero
abbrev pub Named : Meaning → Price → Type 0
Named b p = ((p.leg ≡ 0) × (p.minute ≡ 0)) ⊎ (IsLeg b p.leg × (b.lo p.leg ≤ p.minute) × (p.minute + 1 ≤ b.hi p.leg))

-- the worth of a price
unfoldable pub worth : Meaning → Price → Row
worth b p = cond (p.leg == 0) none (step b p.leg p.minute)

-- the price rule for the minutes x: within the bounds no leg gains by leaving its minutes at its price, and prices fall
-- over a stop only where it is reached as early as its window allows, and rise only where it is reached as late
pub record PriceRule (b : Meaning) (le : Row → Row → Type 0) (s : Settings) (x : ℕ → ℕ) (p : ℕ → Price) : Type 0 where
  pub named : (i : ℕ) → IsLeg b i → Named b (p i)
  pub legs : (i m : ℕ) → IsLeg b i → s.low i ≤ m → m ≤ s.high i → le (plus (b.cost i (x i)) (times (pos m -ℤ pos (x i)) (worth b (p i)))) (b.cost i m)
  pub rises : (k : ℕ) → 1 ≤ k → k < b.legs → earliest b.legs s k < reached x k → le (worth b (p k)) (worth b (p (k + 1)))
  pub falls : (k : ℕ) → 1 ≤ k → k < b.legs → reached x k < latest b.legs s k → le (worth b (p (k + 1))) (worth b (p k))
