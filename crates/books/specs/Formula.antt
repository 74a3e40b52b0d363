-- Formula books: a leg's cost by a formula, what a lawful leg is, and what a list of legs means.
-- Assumes nothing.
use Rattle.std.specs.Prelude.{◌≡◌, ℕ, ◌+◌, ◌-◌, ◌^◌, ◌≤◌, List, length, ℤ, pos, ◌+ℤ◌, ◌-ℤ◌, ◌*ℤ◌, neg_ℤ, ◌≤ℤ◌, slice_index_or}
use Rattle.amounts.specs.Rows.{single}
use Rattle.books.specs.Meaning.{Meaning, IsLeg}
use Rattle.books.specs.declared.formula.FormulaLeg.{FormulaLeg}

-- the kilograms of m minutes on a leg: q times the square of m - t, and r
unfoldable pub kilograms : FormulaLeg → ℕ → ℤ
kilograms leg m = pos leg.q *ℤ ((pos m -ℤ pos leg.t) *ℤ (pos m -ℤ pos leg.t)) +ℤ leg.r

-- the minutes of a lawful leg: ends in order, the upper one at most 4,095, as t is
abbrev pub Timed : FormulaLeg → Type 0
Timed leg = (leg.lo ≤ leg.hi) × (leg.hi ≤ 4095) × (leg.t ≤ 4095)

-- the weights of a lawful leg: q at most 65,535, and r from -2^29 to 2^29
abbrev pub Weighed : FormulaLeg → Type 0
Weighed leg = (leg.q ≤ 65535) × (neg_ℤ (pos (2 ^ 29)) ≤ℤ leg.r) × (leg.r ≤ℤ pos (2 ^ 29))

-- the leg that costs nothing and takes no minute
abbrev pub blank : FormulaLeg
blank = record { q = 0; t = 0; r = pos 0; lo = 0; hi = 0 }

-- leg i of a list, counted from 1
abbrev pub at : List FormulaLeg → ℕ → FormulaLeg
at legs i = slice_index_or legs (i - 1) blank

-- the book of a list of legs
abbrev pub formulas : List FormulaLeg → Meaning
formulas legs =
    record { legs = length legs; lo = λ i. (at legs i).lo; hi = λ i. (at legs i).hi; cost = λ i m. single (kilograms (at legs i) m) }

-- the new book is the old one with one leg more, and every other leg as before
pub record Appended (old : Meaning) (leg : FormulaLeg) (new : Meaning) : Type 0 where
  pub more : new.legs ≡ old.legs + 1
  pub lo_of_it : new.lo (old.legs + 1) ≡ leg.lo
  pub hi_of_it : new.hi (old.legs + 1) ≡ leg.hi
  pub cost_of_it : (m : ℕ) → new.cost (old.legs + 1) m ≡ single (kilograms leg m)
  pub lo_kept : (i : ℕ) → IsLeg old i → new.lo i ≡ old.lo i
  pub hi_kept : (i : ℕ) → IsLeg old i → new.hi i ≡ old.hi i
  pub cost_kept : (i m : ℕ) → IsLeg old i → new.cost i m ≡ old.cost i m
