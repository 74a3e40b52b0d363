-- What a book means, and the laws that it keeps.
-- Assumes nothing.
use Rattle.std.specs.Prelude.{ℕ, ◌+◌, ◌^◌, ◌≤◌}
use Rattle.amounts.specs.Rows.{Row, minus, Within, Ends}

-- a book: legs numbered from 1 to `legs`, for each leg i the fewest and the most minutes that it can be flown in,
-- and the cost of m minutes on leg i
pub record Meaning : Type 0 where
  pub legs : ℕ
  pub lo : ℕ → ℕ
  pub hi : ℕ → ℕ
  pub cost : ℕ → ℕ → Row

-- i is a leg of the book
abbrev pub IsLeg : Meaning → ℕ → Type 0
IsLeg b i = (1 ≤ i) × (i ≤ b.legs)

-- the book has a cost for m minutes on leg i
abbrev pub Priced : Meaning → ℕ → ℕ → Type 0
Priced b i m = IsLeg b i × (b.lo i ≤ m) × (m ≤ b.hi i)

-- what one minute more than m costs on leg i
unfoldable pub step : Meaning → ℕ → ℕ → Row
step b i m = minus (b.cost i (m + 1)) (b.cost i m)

-- at most 64 legs, each with two ends in order, the upper at most 4,095
pub record Shaped (b : Meaning) : Type 0 where
  pub few : b.legs ≤ 64
  pub ordered : (i : ℕ) → IsLeg b i → b.lo i ≤ b.hi i
  pub short : (i : ℕ) → IsLeg b i → b.hi i ≤ 4095

-- the range law: every place of every cost lies from -2^40 to 2^40, in rows of n places
abbrev pub Ranged : ℕ → Meaning → Type 0
Ranged n b = (i m : ℕ) → Priced b i m → Within (2 ^ 40) n (b.cost i m) × Ends n (b.cost i m)

-- the step law: steps never fall, in the order le
abbrev pub Convex : (Row → Row → Type 0) → Meaning → Type 0
Convex le b = (i m : ℕ) → IsLeg b i → b.lo i ≤ m → m + 2 ≤ b.hi i → le (step b i m) (step b i (m + 1))
