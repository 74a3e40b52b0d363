-- Rows of whole numbers: what amounts mean.
-- Assumes nothing.
use Rattle.std.specs.Prelude.{◌≡◌, ℕ, ◌+◌, ◌-◌, ◌^◌, ◌<◌, ◌≤◌, cond, ℤ, pos, ◌+ℤ◌, ◌-ℤ◌, ◌*ℤ◌, neg_ℤ, ◌≤ℤ◌, Option, MatchOption, nat_lt}
use Rattle.std.specs.Int.{int_max, int_min}

-- a whole number at every place; a kind with n places uses the places 0 to n - 1, and the others hold 0
abbrev pub Row : Type 0
Row = ℕ → ℤ

-- the row of zeros
unfoldable pub none : Row
none k = pos 0

-- the sum, place by place
unfoldable pub plus : Row → Row → Row
plus x y k = x k +ℤ y k

-- the difference, place by place
unfoldable pub minus : Row → Row → Row
minus x y k = x k -ℤ y k

-- "p taken t times": every place of p multiplied by t
unfoldable pub times : ℤ → Row → Row
times t p k = t *ℤ p k

-- the row with one place
unfoldable pub single : ℤ → Row
single v k = cond (nat_lt k 1) v (pos 0)

-- the row x of m places, and behind it the row y
unfoldable pub joined : ℕ → Row → Row → Row
joined m x y k = cond (nat_lt k m) (x k) (y (k - m))

-- the row without its first m places
unfoldable pub rest : ℕ → Row → Row
rest m x k = x (m + k)

-- two rows agree in the first n places
abbrev pub Same : ℕ → Row → Row → Type 0
Same n x y = (k : ℕ) → k < n → x k ≡ y k

-- every one of the first n places lies from -limit to limit
abbrev pub Within : ℕ → ℕ → Row → Type 0
Within limit n x = (k : ℕ) → k < n → (neg_ℤ (pos limit) ≤ℤ x k) × (x k ≤ℤ pos limit)

-- the places from n on hold 0
abbrev pub Ends : ℕ → Row → Type 0
Ends n x = (k : ℕ) → n ≤ k → x k ≡ pos 0

-- the range of an amount's places
abbrev pub InRange : ℕ → Row → Type 0
InRange n x = Within (2 ^ 47) n x

-- a number read as the nearer end of the range where it lies beyond it
abbrev pub nearest : ℤ → ℤ
nearest v = int_max (neg_ℤ (pos (2 ^ 47))) (int_min v (pos (2 ^ 47)))

-- the answer of an operation whose exact row is x: absent exactly if some place of x lies beyond the range
abbrev pub Exactly : {A : Type 0} → ℕ → (A → Row) → Row → Option A → Type 0
Exactly n row x r = MatchOption r (InRange n x → ⊥) (λ a. InRange n x × (row a ≡ x))
