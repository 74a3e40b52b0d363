-- Charge books: what rates in cents a minute over a book mean.
-- Assumes nothing.
use Rattle.std.specs.Prelude.{◌≡◌, ℕ, ◌-◌, ◌*◌, ◌≤◌, List, pos, ◌≢◌, slice_index}
use Rattle.amounts.specs.Rows.{joined, single}
use Rattle.books.specs.Meaning.{Meaning}

-- the rate of leg i, counted from 1
abbrev pub rate : List ℕ → ℕ → ℕ
rate rates i = slice_index rates (i - 1)

-- the book below, whose costs have n places, and behind each cost the leg's rate times the minutes
abbrev pub charged : ℕ → Meaning → List ℕ → Meaning
charged n below rates =
    record {
      legs = below.legs;
      lo = below.lo;
      hi = below.hi;
      cost = λ i m. joined n (below.cost i m) (single (pos (rate rates i * m)));
    }

-- the rate of one leg is set, and the others are as before
pub record RateSet (old : List ℕ) (leg value : ℕ) (new : List ℕ) : Type 0 where
  pub changed : rate new leg ≡ value
  pub kept : (i : ℕ) → 1 ≤ i → (i ≢ leg) → rate new i ≡ rate old i
