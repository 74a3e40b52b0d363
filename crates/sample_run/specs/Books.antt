-- What the books of the program mean.
-- Assumes nothing.
use Rattle.std.specs.Prelude.{◌≡◌, ℕ}
use Rattle.amounts.specs.Rows.{single}
use Rattle.books.specs.Formula.{kilograms}
use Rattle.books.specs.Meaning.{Meaning, IsLeg}
use Rattle.books.specs.declared.formula.FormulaLeg.{FormulaLeg}

-- the book b has n legs, each of them this one
pub record LegsOf (b : Meaning) (n : ℕ) (leg : FormulaLeg) : Type 0 where
  pub count : b.legs ≡ n
  pub lo : (i : ℕ) → IsLeg b i → b.lo i ≡ leg.lo
  pub hi : (i : ℕ) → IsLeg b i → b.hi i ≡ leg.hi
  pub cost : (i m : ℕ) → IsLeg b i → b.cost i m ≡ single (kilograms leg m)
