-- The two moves of a minute, the steps that a book has, and a leading one among open legs.
-- Assumes nothing.
use Rattle.std.specs.Prelude.{◌≡◌, ℕ, ◌+◌, ◌-◌, ◌<◌, ◌≤◌, ◌⊎◌, List, length, Option, MatchOption, ◌≢◌, slice_index_or}
use Rattle.amounts.specs.Rows.{Row}
use Rattle.books.specs.Meaning.{Meaning, IsLeg, step}
use Rattle.books.specs.declared.Ends.{Ends}
use Rattle.solver.specs.Plans.{range, los, his}

-- a leg is made longer, or shorter
pub data Direction : Type 0 where
  Up : Direction
  Down : Direction

-- the book has a step from minute m on leg i
abbrev pub Stepped : Meaning → ℕ → ℕ → Type 0
Stepped b i m = IsLeg b i × (b.lo i ≤ m) × (m + 1 ≤ b.hi i)

-- the minute whose step a move takes, on a range that is open
abbrev pub edge_of : Direction → Ends → ℕ
edge_of Up e = e.lo
edge_of Down e = e.hi - 1

-- the end of a range that a move moves
abbrev pub end_of : Direction → Ends → ℕ
end_of Up e = e.lo
end_of Down e = e.hi

-- the range after a move
abbrev pub moved : Direction → Ends → Ends
moved Up e = record { lo = e.lo + 1; hi = e.hi }
moved Down e = record { lo = e.lo; hi = e.hi - 1 }

-- the step at the edge of leg j
abbrev pub edge_row : Meaning → Direction → List Ends → ℕ → Row
edge_row b way es j = step b j (edge_of way (range es j))

-- the book has the step at the edge of every open leg of 1 to k
abbrev pub Steps : Meaning → Direction → List Ends → ℕ → Type 0
Steps b way es k = (j : ℕ) → 1 ≤ j → j ≤ k → los es j < his es j → Stepped b j (edge_of way (range es j))

-- where xs reaches to i, it holds there the row
abbrev pub Held : {A : Type 0} → (A → Row) → Row → ℕ → List A → Type 0
Held {A} row want i xs = i < length xs → (d : A) → row (slice_index_or xs i d) ≡ want

-- as far as it reaches, xs holds the step at the edge of every open leg of 1 to k
abbrev pub AtHand : {A : Type 0} → (A → Row) → Meaning → Direction → List Ends → ℕ → List A → Type 0
AtHand row b way es k xs = (j : ℕ) → 1 ≤ j → j ≤ k → los es j < his es j → Held row (edge_row b way es j) j xs

-- the same of every leg but i
abbrev pub AtHandBut : {A : Type 0} → (A → Row) → Meaning → Direction → List Ends → ℕ → ℕ → List A → Type 0
AtHandBut row b way es k i xs = (j : ℕ) → 1 ≤ j → j ≤ k → (j ≢ i) → los es j < his es j → Held row (edge_row b way es j) j xs

-- the order of a move: the least comes first, or the greatest
abbrev pub Before : Direction → (Row → Row → Type 0) → Row → Row → Type 0
Before Up le x y = le x y
Before Down le x y = le y x

-- of the best so far and one more, r is the one whose amount goes before the other's
abbrev pub Chosen : {A : Type 0} → (Row → Row → Type 0) → (A → Row) → Option (ℕ × A) → ℕ × A → ℕ × A → Type 0
Chosen before row best new r = MatchOption best (r ≡ new) (λ old. ((r ≡ new) × before (row new.1) (row old.1)) ⊎ ((r ≡ old) × before (row old.1) (row new.1)))

-- none of the legs 1 to k has a minute open
abbrev pub NoneOpen : List Ends → ℕ → Type 0
NoneOpen es k = (j : ℕ) → 1 ≤ j → j ≤ k → los es j < his es j → ⊥

-- among the legs 1 to k, leg i is open, and its row goes before that of every other open leg
abbrev pub Leads : (Row → Row → Type 0) → (ℕ → Row) → List Ends → ℕ → ℕ → Type 0
Leads before rows es k i = (1 ≤ i) × (i ≤ k) × (los es i < his es i) × ((j : ℕ) → 1 ≤ j → j ≤ k → los es j < his es j → before (rows i) (rows j))
