-- Laws of rows that sums of costs need, beside the general ones.
use Rattle.std.proofs.Common.{◌≡◌, ℕ, suc, ℤ, pos, ◌+ℤ◌, ap, arith}
use mathlib.Core.Path.{fun_ext}
use lib.IntN.{suc_ℤ-*ℤ}
use Rattle.std.proofs.lemmas.Int.{ints}
use Rattle.amounts.specs.Rows.{Row, plus, minus, times}
use Rattle.amounts.specs.Orders.{Order}
use Rattle.amounts.specs.RowLaws.{plus_assoc, plus_comm, times_sum, added_left, cancelled}

-- the last two of three rows change places
pub plus_swap : (x y z : Row) → plus (plus x y) z ≡ plus (plus x z) y
unfolding plus
plus_swap x y z = fun_ext (λ k. omega (arith, ints))

-- the middle two of four rows change places
pub plus_medial : (x y z w : Row) → plus (plus x y) (plus z w) ≡ plus (plus x z) (plus y w)
unfolding plus
plus_medial x y z w = fun_ext (λ k. omega (arith, ints))

-- a row added and taken away again
pub plus_difference : (x y : Row) → plus x (minus y x) ≡ y
unfolding plus minus
plus_difference x y = fun_ext (λ k. omega (arith, ints))

-- two changes of one sum, one after the other, put together
pub plus_chain : (x y z a b c d : Row) → plus x a ≡ plus y b → plus y c ≡ plus z d → plus x (minus c d) ≡ plus z (minus b a)
unfolding plus minus
plus_chain x y z a b c d p q =
    fun_ext
    (λ k.
    let first : x k +ℤ a k ≡ y k +ℤ b k = ap (λ r. r k) p in
    let second : y k +ℤ c k ≡ z k +ℤ d k = ap (λ r. r k) q in
    omega (arith, ints))

-- a row taken no times
pub plus_times_zero : (x p : Row) → plus x (times (pos 0) p) ≡ x
unfolding times plus
plus_times_zero x p = fun_ext (λ k. omega (arith, ints))

-- a row taken t times, and d times with nothing left of both
pub plus_times_gone : (x p : Row) (t : ℤ) (d : ℕ) → t +ℤ pos d ≡ pos 0 → plus (plus x (times t p)) (times (pos d) p) ≡ x
plus_times_gone x p t d e = rw (plus_assoc x (times t p) (times (pos d) p), ← times_sum t (pos d) p, e) (plus_times_zero x p)

-- a row taken once more
pub times_suc : (d : ℕ) (p : Row) → times (pos (suc d)) p ≡ plus (times (pos d) p) p
unfolding times plus
times_suc d p = fun_ext (λ k. suc_ℤ-*ℤ (pos d) (p k))

module _ {n : ℕ} {le : Row → Row → Type 0} (o : Order n le) where
  -- where a more against p is c more against q, and q is at most p, a is at most c
  pub le_exchange : (a c p q : Row) → plus a p ≡ plus c q → le q p → le a c
  le_exchange a c p q e h = cancelled o a c p (rw e (added_left o q p c h))

  -- and where c is at most a, p is at most q
  pub le_exchange_back : (a c p q : Row) → plus a p ≡ plus c q → le c a → le p q
  le_exchange_back a c p q e h = cancelled o p q c (rw (plus_comm p c, plus_comm q c) (rw e at (o.added c a p h)))
