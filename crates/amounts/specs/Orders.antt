-- What makes an order of rows the order of a kind of amount, and the orders of the kinds.
-- Assumes nothing.
use Rattle.std.specs.Prelude.{ℕ, Bool, true, false, ◌⊎◌, ◌≤ℤ◌}
use Rattle.amounts.specs.Rows.{Row, plus, rest, Same}

-- le orders the rows of n places, also those beyond the range of amounts
pub record Order (n : ℕ) (le : Row → Row → Type 0) : Type 0 where
  -- of any two rows one is at most the other
  pub total : (x y : Row) → le x y ⊎ le y x
  pub transitive : (x y z : Row) → le x y → le y z → le x z
  -- rows that are equal in the order are the same
  pub antisymmetric : (x y : Row) → le x y → le y x → Same n x y
  -- adding one row to both sides never turns the order
  pub added : (x y z : Row) → le x y → le (plus x z) (plus y z)
  -- the order can be decided
  pub decided : (x y : Row) → Dec (le x y)
  -- and looks at the first n places alone
  pub placed : (x y x' y' : Row) → Same n x x' → Same n y y' → le x y → le x' y'

-- one place, in the order of numbers
abbrev pub ByNumber : Row → Row → Type 0
ByNumber x y = x 0 ≤ℤ y 0

-- rows joined of m places and others: the first part decides, and the second decides between equals
abbrev pub ByRank : ℕ → (Row → Row → Type 0) → (Row → Row → Type 0) → Row → Row → Type 0
ByRank m first second x y = first x y × (first y x → second (rest m x) (rest m y))

-- a test that answers whether P holds
abbrev pub Tells : Bool → Type 0 → Type 0
Tells true P = P
Tells false P = P → ⊥
