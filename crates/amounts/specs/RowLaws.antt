-- The laws of rows: sums, differences, multiples, and what every order of rows keeps.
use Rattle.std.specs.Prelude.{◌≡◌, ℕ, ℤ, pos, ◌+ℤ◌}
use Rattle.std.proofs.Common.{sym, ◌∙◌, inl, inr, arith}
use Rattle.std.proofs.Math.Path.{fun_ext}
use Rattle.std.proofs.Math.IntN.{+ℤ_assoc, +ℤ_comm}
use Rattle.std.proofs.lemmas.Int.{ints}
use Rattle.amounts.specs.Rows.{Row, none, plus, minus, times}
use Rattle.amounts.specs.Orders.{Order}
use Rattle.amounts.specs.Integers as int

-- ---- sums and differences

pub plus_assoc : (x y z : Row) → plus (plus x y) z ≡ plus x (plus y z)
unfolding plus
plus_assoc x y z = fun_ext (λ k. +ℤ_assoc (x k) (y k) (z k))

pub plus_comm : (x y : Row) → plus x y ≡ plus y x
unfolding plus
plus_comm x y = fun_ext (λ k. +ℤ_comm (x k) (y k))

pub plus-minus : (x y : Row) → minus (plus x y) y ≡ x
unfolding plus minus
plus-minus x y = fun_ext (λ k. omega (arith, ints))

-- taking away is adding what is taken away from nothing
pub minus_is_plus : (x y : Row) → minus x y ≡ plus x (minus none y)
unfolding plus minus none
minus_is_plus x y = fun_ext (λ k. omega (arith, ints))

-- ---- multiples

pub times_one : (p : Row) → times (pos 1) p ≡ p
unfolding times
times_one p = fun_ext (λ k. int.one_times (p k))

pub times_sum : (s t : ℤ) (p : Row) → times (s +ℤ t) p ≡ plus (times s p) (times t p)
unfolding times plus
times_sum s t p = fun_ext (λ k. int.sum_times s t (p k))

-- ---- orders

module _ {n : ℕ} {le : Row → Row → Type 0} (o : Order n le) where
  pub le_refl : (x : Row) → le x x
  le_refl x = elim (o.total x x) [ inl h ↦ h | inr h ↦ h ]

  pub added_left : (x y z : Row) → le x y → le (plus z x) (plus z y)
  added_left x y z h = rw (plus_comm z x, plus_comm z y) (o.added x y z h)

  -- two comparisons added up
  pub added_both : (x y z w : Row) → le x y → le z w → le (plus x z) (plus y w)
  added_both x y z w p q = o.transitive _ _ _ (o.added x y z p) (added_left z w y q)

  -- one row taken from both sides
  pub cancelled : (x y z : Row) → le (plus x z) (plus y z) → le x y
  cancelled x y z h =
      let moved = o.added (plus x z) (plus y z) (minus none z) h in
      let back : (w : Row) → plus (plus w z) (minus none z) ≡ w = λ w. sym (minus_is_plus (plus w z) z) ∙ plus-minus w z in
      rw (back x, back y) at moved
