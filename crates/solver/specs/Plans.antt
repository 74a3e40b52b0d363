-- What a plan's arrays mean, and which plans a book lets through.
-- Assumes nothing.
use Rattle.std.specs.Prelude.{ℕ, ◌<◌, ◌≤◌, List, slice_index, slice_index_or}
use Rattle.books.specs.Meaning.{Meaning, IsLeg}
use Rattle.books.specs.declared.Ends.{Ends}
use Rattle.optimum.specs.Rotation.{Settings, Stuck, Timing}
use Rattle.optimum.specs.declared.Price.{Price}
use Rattle.solver.specs.declared.plan.Plan.{Plan}

-- the number of a leg or stop in an array; place 0 belongs to none
abbrev pub at : List ℕ → ℕ → ℕ
at xs i = slice_index xs i

-- the range of leg or stop i in an array of ranges, its lower end, and its upper one; beyond it both are 0
abbrev pub range : List Ends → ℕ → Ends
range es i = slice_index_or es i (record { lo = 0; hi = 0 })

abbrev pub los : List Ends → ℕ → ℕ
los es i = (range es i).lo

abbrev pub his : List Ends → ℕ → ℕ
his es i = (range es i).hi

-- when the window of stop k opens in an array of windows, and when it shuts; beyond it windows are 0 to 4,095
abbrev pub open_from : List Ends → ℕ → ℕ
open_from es k = (slice_index_or es k (record { lo = 0; hi = 4095 })).lo

abbrev pub open_to : List Ends → ℕ → ℕ
open_to es k = (slice_index_or es k (record { lo = 0; hi = 4095 })).hi

-- the price of leg i in an array; beyond it the price zero
abbrev pub price_at : List Price → ℕ → Price
price_at ps i = slice_index_or ps i (record { leg = 0; minute = 0 })

-- the settings that a plan holds; beyond its arrays, where no leg or stop is, bounds are 0 and windows 0 to 4,095
abbrev pub settings : Plan → Settings
settings p = record { total = p.total; low = los p.bounds; high = his p.bounds; opens = open_from p.windows; shuts = open_to p.windows }

-- a range is in order and lies inside another
abbrev pub Inside : Ends → Ends → Type 0
Inside e o = (o.lo ≤ e.lo) × (e.lo ≤ e.hi) × (e.hi ≤ o.hi)

-- the bounds of leg i are in order and within its ends
abbrev pub BoundsFit : Meaning → Settings → ℕ → Type 0
BoundsFit b s i = (b.lo i ≤ s.low i) × (s.low i ≤ s.high i) × (s.high i ≤ b.hi i)

-- the window of stop k is in order and ends by 4,095
abbrev pub WindowsFit : Settings → ℕ → Type 0
WindowsFit s k = (s.opens k ≤ s.shuts k) × (s.shuts k ≤ 4095)

-- settings that fit a book of at least one leg
pub record Lawful (b : Meaning) (s : Settings) : Type 0 where
  pub some : 1 ≤ b.legs
  pub day : s.total ≤ 4095
  pub bounds : (i : ℕ) → IsLeg b i → BoundsFit b s i
  pub windows : (k : ℕ) → 1 ≤ k → k < b.legs → WindowsFit s k

-- no number of n legs above 4,095, and bounds in order
pub record Small (n : ℕ) (s : Settings) : Type 0 where
  pub day : s.total ≤ 4095
  pub bounds : (i : ℕ) → 1 ≤ i → i ≤ n → (s.low i ≤ s.high i) × (s.high i ≤ 4095)
  pub windows : (k : ℕ) → 1 ≤ k → k < n → s.shuts k ≤ 4095

-- leg k of n is the first at which nothing is left
pub record First (n : ℕ) (s : Settings) (k : ℕ) : Type 0 where
  pub leg : (1 ≤ k) × (k ≤ n)
  pub stuck : Stuck n s k
  pub before : (j : ℕ) → j < k → Stuck n s j → ⊥

-- limits of the first k of n legs that lie in their bounds and leave out no timing
pub record Clipped (n k : ℕ) (s : Settings) (l u : ℕ → ℕ) : Type 0 where
  pub bounds : (i : ℕ) → 1 ≤ i → i ≤ k → (s.low i ≤ l i) × (u i ≤ s.high i)
  pub timings : (y : ℕ → ℕ) → Timing n s y → (i : ℕ) → 1 ≤ i → i ≤ k → (l i ≤ y i) × (y i ≤ u i)
