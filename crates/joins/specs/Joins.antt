-- Joined books: the legs of one book and then those of another.
-- Assumes nothing.
use Rattle.std.specs.Prelude.{◌≡◌, ℕ, ◌+◌, ◌-◌, ◌<◌, ◌≤◌, min, cond, nat_le}
use Rattle.books.specs.Meaning.{Meaning}
use Rattle.joins.specs.declared.joined.Part.{Part}
use Rattle.joins.specs.declared.joined.Part.TheVariants.{First, Second}

-- leg i is that of the first book, and past its legs the second book's, counted on; legs past the sixty-fourth are not in it
abbrev pub followed : Meaning → Meaning → Meaning
followed a b =
    record {
      legs = min 64 (a.legs + b.legs);
      lo = λ i. cond (nat_le i a.legs) (a.lo i) (b.lo (i - a.legs));
      hi = λ i. cond (nat_le i a.legs) (a.hi i) (b.hi (i - a.legs));
      cost = λ i m. cond (nat_le i a.legs) (a.cost i m) (b.cost (i - a.legs) m);
    }

-- the leg is that of the first book, or past its legs the second book's, counted on
abbrev pub Has : Meaning → ℕ → Part → Type 0
Has a leg (First i) = (leg ≤ a.legs) × (i ≡ leg)
Has a leg (Second i) = (a.legs < leg) × (i ≡ leg - a.legs)
