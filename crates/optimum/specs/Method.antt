-- The method: what is kept while a timing and its prices are found. Only inner functions are held to it.
-- Assumes nothing.
use Rattle.std.specs.Prelude.{◌≡◌, ℕ, ◌<◌, ◌≤◌, ◌⊎◌}
use Rattle.amounts.specs.Rows.{Row}
use Rattle.books.specs.Meaning.{Meaning, IsLeg, step}
use Rattle.optimum.specs.Rotation.{Settings, reached, earliest, latest, cost_of_timing, Keeps, Timing}

-- the minutes of the first k legs that keep their bounds and windows reach stop k at the minutes from e to f, each of them
pub record Reach (n : ℕ) (s : Settings) (k e f : ℕ) : Type 0 where
  pub ordered : e ≤ f
  pub inside : (x : ℕ → ℕ) → Keeps n s x k → (e ≤ reached x k) × (reached x k ≤ f)
  pub attained : (v : ℕ) → e ≤ v → v ≤ f → (x : ℕ → ℕ) × Keeps n s x k × (reached x k ≡ v)

-- every timing reaches each stop k from e k to f k
abbrev pub Between : ℕ → Settings → (ℕ → ℕ) → (ℕ → ℕ) → Type 0
Between n s e f = (y : ℕ → ℕ) → Timing n s y → (k : ℕ) → k ≤ n → (e k ≤ reached y k) × (reached y k ≤ f k)

-- the bounds of the legs lie in the book's ends
abbrev pub Fits : Meaning → Settings → Type 0
Fits b s = (i : ℕ) → IsLeg b i → (b.lo i ≤ s.low i) × (s.high i ≤ b.hi i)

-- each of the first n legs has from l to u minutes
abbrev pub InBox : ℕ → (ℕ → ℕ) → (ℕ → ℕ) → (ℕ → ℕ) → Type 0
InBox n l u z = (i : ℕ) → 1 ≤ i → i ≤ n → (l i ≤ z i) × (z i ≤ u i)

-- a timing in the box from l to u
abbrev pub Held : Meaning → Settings → (ℕ → ℕ) → (ℕ → ℕ) → Type 0
Held b s l u = (z : ℕ → ℕ) × Timing b.legs s z × InBox b.legs l u z

-- a timing in the box from l to u that costs no more than y
abbrev pub Matched : Meaning → (Row → Row → Type 0) → Settings → (ℕ → ℕ) → (ℕ → ℕ) → (ℕ → ℕ) → Type 0
Matched b le s l u y = (z : ℕ → ℕ) × Timing b.legs s z × InBox b.legs l u z × le (cost_of_timing b z) (cost_of_timing b y)

-- no list of the box with the day's total reaches stop j too late: its longest minutes do not, or the total comes no later
abbrev pub Closed : Meaning → Settings → (ℕ → ℕ) → ℕ → Type 0
Closed b s u j = (reached u j ≤ latest b.legs s j) ⊎ (s.total ≤ latest b.legs s j)

-- the box from l to u, the stops 1 to k settled: its lists keep the bounds and the windows up to k, it holds a timing,
-- and for every timing one that costs no more
pub record Boxed (b : Meaning) (le : Row → Row → Type 0) (s : Settings) (l u : ℕ → ℕ) (k : ℕ) : Type 0 where
  pub inside : (i : ℕ) → IsLeg b i → (s.low i ≤ l i) × (l i ≤ u i) × (u i ≤ s.high i)
  pub early : (j : ℕ) → 1 ≤ j → j ≤ k → earliest b.legs s j ≤ reached l j
  pub late : (j : ℕ) → 1 ≤ j → j ≤ k → Closed b s u j
  pub some : Held b s l u
  pub best : (y : ℕ → ℕ) → Timing b.legs s y → Matched b le s l u y

-- v at leg k is at most the next step of every leg to which a minute can be moved from leg k: to the right over stops that
-- are not reached as early as may be, and to the left over stops that are not reached as late
pub record Safe (b : Meaning) (le : Row → Row → Type 0) (s : Settings) (x : ℕ → ℕ) (v : Row) (k : ℕ) : Type 0 where
  pub right :
      (i : ℕ) → IsLeg b i → x i < s.high i → k ≤ i → ((j : ℕ) → k ≤ j → j < i → earliest b.legs s j < reached x j) →
      le v (step b i (x i))
  pub left :
      (i : ℕ) → IsLeg b i → x i < s.high i → i ≤ k → ((j : ℕ) → i ≤ j → j < k → reached x j < latest b.legs s j) →
      le v (step b i (x i))
