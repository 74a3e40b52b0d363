-- Minutes in a list, the leg 1 first, and whether a book has a cost for each.
-- Assumes nothing.
use Rattle.std.specs.Prelude.{ℕ, ◌-◌, ◌≤◌, List, length, slice_index}
use Rattle.books.specs.Meaning.{Meaning, IsLeg, Priced}

-- the minutes of leg i
abbrev pub flown : List ℕ → ℕ → ℕ
flown ms i = slice_index ms (i - 1)

-- the book has a cost for the minutes of every leg in the list
abbrev pub AllPriced : Meaning → List ℕ → Type 0
AllPriced b ms = (i : ℕ) → 1 ≤ i → i ≤ length ms → Priced b i (flown ms i)

-- the book has a cost for the minutes x of every leg
abbrev pub Affordable : Meaning → (ℕ → ℕ) → Type 0
Affordable b x = (i : ℕ) → IsLeg b i → Priced b i (x i)
