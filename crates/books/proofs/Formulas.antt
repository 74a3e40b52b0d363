-- The formula of a leg: its size, and its steps.
use Rattle.std.proofs.Common.{◌≡◌, ℕ, zero, suc, ◌+◌, ◌-◌, ◌*◌, ◌^◌, ◌<◌, ◌≤◌, pos, ◌+ℤ◌, ◌-ℤ◌, ◌*ℤ◌, neg_ℤ, refl, inl, inr, mul-le-mul, arith}
use Rattle.std.proofs.lemmas.Int.{ints}
use Rattle.std.proofs.lemmas.Bool.{cases_lt}
use Rattle.books.specs.Formula.{kilograms}
use Rattle.books.specs.declared.formula.FormulaLeg.{FormulaLeg}

-- how far two minutes lie apart
abbrev pub apart : ℕ → ℕ → ℕ
apart m t = (m - t) + (t - m)

opposite : (n : ℕ) → neg_ℤ (pos n) *ℤ neg_ℤ (pos n) ≡ pos (n * n)
opposite zero = refl
opposite (suc n) = refl

pub squared : (m t : ℕ) → (pos m -ℤ pos t) *ℤ (pos m -ℤ pos t) ≡ pos (apart m t * apart m t)
squared m t =
    elim (cases_lt m t) [
      | inl below ↦
          let e : pos m -ℤ pos t ≡ neg_ℤ (pos (apart m t)) = omega (arith, ints) in
          rw e (opposite (apart m t))
      | inr above ↦ let e : pos m -ℤ pos t ≡ pos (apart m t) = omega (arith, ints) in rw e refl
    ]

pub product_below : (a b : ℕ) → a < 2 ^ 16 → b < 2 ^ 32 → a * b < 2 ^ 48
product_below a b p q =
    let p' : a ≤ 65535 = omega arith in
    let q' : b ≤ 4294967295 = omega arith in
    let h : a * b ≤ 65535 * 4294967295 = mul-le-mul p' q' in
    omega arith

pub kilograms_is : (leg : FormulaLeg) (m a b : ℕ) → a ≡ leg.q → pos b ≡ (pos m -ℤ pos leg.t) *ℤ (pos m -ℤ pos leg.t) → pos (a * b) +ℤ leg.r ≡ kilograms leg m
unfolding kilograms
kilograms_is leg m a b p q = rw (p, ← q)
