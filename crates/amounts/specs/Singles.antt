-- Rows with one place, and the order of numbers on them.
use Rattle.std.specs.Prelude.{◌≡◌, ℕ, ◌^◌, Bool, true, false, cond, ℤ, pos, ◌+ℤ◌, ◌-ℤ◌, neg_ℤ, ◌≤ℤ◌, int_le, nat_lt, refl}
use Rattle.std.proofs.Math.Path.{fun_ext}
use Rattle.std.proofs.Common.{Option, inl, inr, sym, ap, ◌∙◌, subst, arith}
use Rattle.std.proofs.lemmas.Int.{ints, clamps, by_lt_z}
use Rattle.amounts.specs.Rows.{Row, none, plus, minus, single, Within, InRange, Ends, nearest, Exactly}
use Rattle.amounts.specs.Orders.{Order, ByNumber, Tells}

pub single_first : (v : ℤ) → single v 0 ≡ v
unfolding single
single_first v = refl

pub single_zero : single (pos 0) ≡ none
unfolding single none
single_zero = fun_ext (λ k. elim (nat_lt k 1) as (λ b. cond b (pos 0) (pos 0) ≡ pos 0) [ true ↦ refl | false ↦ refl ])

pub plus-single : (a b : ℤ) → plus (single a) (single b) ≡ single (a +ℤ b)
unfolding single plus
plus-single a b =
    fun_ext (λ k. elim (nat_lt k 1) as (λ t. cond t a (pos 0) +ℤ cond t b (pos 0) ≡ cond t (a +ℤ b) (pos 0)) [ true ↦ refl | false ↦ refl ])

pub minus-single : (a b : ℤ) → minus (single a) (single b) ≡ single (a -ℤ b)
unfolding single minus
minus-single a b =
    fun_ext (λ k. elim (nat_lt k 1) as (λ t. cond t a (pos 0) -ℤ cond t b (pos 0) ≡ cond t (a -ℤ b) (pos 0)) [ true ↦ refl | false ↦ refl ])

-- a number in the range is read as itself
pub nearest_same : (v : ℤ) → neg_ℤ (pos (2 ^ 47)) ≤ℤ v → v ≤ℤ pos (2 ^ 47) → nearest v ≡ v
nearest_same v low high = omega (arith, ints, clamps)

pub single-within : (limit : ℕ) (v : ℤ) → neg_ℤ (pos limit) ≤ℤ v → v ≤ℤ pos limit → Within limit 1 (single v)
single-within limit v low high k h = let e : k ≡ 0 = omega arith in rw (e, single_first) (low, high)

pub nearest_in_range : (v : ℤ) → InRange 1 (single (nearest v))
nearest_in_range v = single-within (2 ^ 47) (nearest v) (omega (arith, ints, clamps)) (omega (arith, ints, clamps))

pub single_ends : (v : ℤ) → Ends 1 (single v)
unfolding single
single_ends v k h = grind (arith, ints)

added : (x y z : Row) → ByNumber x y → ByNumber (plus x z) (plus y z)
unfolding plus
added x y z h = omega (arith, ints)

pub by_number_order : Order 1 ByNumber
by_number_order =
    record {
      total = λ x y. by_lt_z (x 0) (y 0) (λ h. inl (omega (arith, ints))) (λ h. inr h);
      transitive = λ x y z p q. omega (arith, ints);
      antisymmetric = λ x y p q k h. let e : k ≡ 0 = omega arith in rw e (omega (arith, ints));
      added = added;
      decided = λ x y. by_lt_z (y 0) (x 0) (λ h. no (λ p. omega (arith, ints))) (λ h. yes h);
      placed = λ x y x' y' p q h. omega (arith, ints, p 0 (omega arith), q 0 (omega arith));
    }

-- the test of the order answers it
tells_from : (b : Bool) (P : Type 0) → (b ≡ true → P) → (b ≡ false → P → ⊥) → Tells b P
tells_from true P held failed = held refl
tells_from false P held failed = failed refl

pub tells_number : (x y : ℤ) (a b : Row) → x ≡ a 0 → y ≡ b 0 → Tells (int_le x y) (ByNumber a b)
tells_number x y a b p q = tells_from (int_le x y) _ (λ e. omega (arith, ints)) (λ e h. omega (arith, ints))

-- an answer is the test of the order, where it is true of two numbers in order alone, and false of no such two
pub tells_order : (b : Bool) (x y : ℤ) → (b ≡ true → x ≤ℤ y) → (b ≡ false → x ≤ℤ y → ⊥) → Tells b (ByNumber (single x) (single y))
unfolding single
tells_order b x y held failed = tells_from b _ held failed

-- a number that is told exactly is that of any row that it is the number of
pub exactly_row : {A : Type 0} (row : A → Row) (v w : ℤ) (x : Row) (r : Option A) → Exactly 1 row (single v) r → v ≡ w → x ≡ single w → Exactly 1 row x r
exactly_row row v w x r told same is = subst (λ y. Exactly 1 row y r) (ap single same ∙ sym is) told
