-- A rotation: its settings, its timings, and what they cost.
-- Assumes nothing.
use Rattle.std.specs.Prelude.{ℕ, zero, suc, ◌+◌, ◌≤◌, cond, ◌==◌}
use Rattle.amounts.specs.Rows.{Row, none, plus}
use Rattle.books.specs.Meaning.{Meaning}

-- what a standing sheet is set to: the total of the day, for each leg i its bounds (low i to high i),
-- and for each stop k, which follows leg k, its window (opens k to shuts k)
pub record Settings : Type 0 where
  pub total : ℕ
  pub low : ℕ → ℕ
  pub high : ℕ → ℕ
  pub opens : ℕ → ℕ
  pub shuts : ℕ → ℕ

-- the numbers f, but v at i
unfoldable pub put : (ℕ → ℕ) → ℕ → ℕ → ℕ → ℕ
put f i v k = cond (k == i) v (f k)

-- the minutes x of the legs 1 to k together: when stop k is reached
unfoldable pub reached : (ℕ → ℕ) → ℕ → ℕ
reached x zero = 0
reached x (suc k) = reached x k + x (suc k)

-- when the window of stop k of n opens; the total is the window of the last
unfoldable pub earliest : ℕ → Settings → ℕ → ℕ
earliest n s k = cond (k == n) s.total (s.opens k)

-- when the window of stop k of n shuts; the total is the window of the last
unfoldable pub latest : ℕ → Settings → ℕ → ℕ
latest n s k = cond (k == n) s.total (s.shuts k)

-- x lies in the bounds of leg i
abbrev pub Bounded : Settings → (ℕ → ℕ) → ℕ → Type 0
Bounded s x i = (s.low i ≤ x i) × (x i ≤ s.high i)

-- x reaches stop k inside its window
abbrev pub OnTime : ℕ → Settings → (ℕ → ℕ) → ℕ → Type 0
OnTime n s x k = (earliest n s k ≤ reached x k) × (reached x k ≤ latest n s k)

-- the minutes x keep the bounds of the legs 1 to k and the windows of the stops 1 to k
pub record Keeps (n : ℕ) (s : Settings) (x : ℕ → ℕ) (k : ℕ) : Type 0 where
  pub bounds : (i : ℕ) → 1 ≤ i → i ≤ k → Bounded s x i
  pub windows : (j : ℕ) → 1 ≤ j → j ≤ k → OnTime n s x j

-- a timing of n legs: minutes that keep every bound, every window and the total
abbrev pub Timing : ℕ → Settings → (ℕ → ℕ) → Type 0
Timing n s x = Keeps n s x n

-- no minutes for the legs 1 to k keep their bounds and the windows up to k
abbrev pub Stuck : ℕ → Settings → ℕ → Type 0
Stuck n s k = (x : ℕ → ℕ) → Keeps n s x k → ⊥

-- the cost of the minutes x on the legs 1 to k
unfoldable pub spent : Meaning → (ℕ → ℕ) → ℕ → Row
spent b x zero = none
spent b x (suc k) = plus (spent b x k) (b.cost (suc k) (x (suc k)))

-- what a timing costs: the sum over the legs
abbrev pub cost_of_timing : Meaning → (ℕ → ℕ) → Row
cost_of_timing b x = spent b x b.legs

-- a timing, and every other costs at least as much
pub record Cheapest (b : Meaning) (le : Row → Row → Type 0) (s : Settings) (x : ℕ → ℕ) : Type 0 where
  pub timing : Timing b.legs s x
  pub least : (y : ℕ → ℕ) → Timing b.legs s y → le (cost_of_timing b x) (cost_of_timing b y)
