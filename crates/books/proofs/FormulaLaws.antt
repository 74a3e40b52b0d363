-- The laws of a formula book: its costs are in range, and its steps never fall.
use Rattle.std.proofs.Common.{◌≡◌, ℕ, ◌+◌, ◌*◌, ◌^◌, ◌≤◌, ℤ, pos, ◌+ℤ◌, ◌-ℤ◌, ◌*ℤ◌, neg_ℤ, ◌≤ℤ◌, sym, refl, ap, ◌∙◌, mul-le-mul, arith}
use Rattle.std.proofs.lemmas.Int.{ints}
use Rattle.amounts.specs.Rows.{single, minus, nearest}
use Rattle.amounts.specs.Orders.{ByNumber}
use Rattle.amounts.specs.Singles.{nearest_same}
use Rattle.amounts.specs.Integers.{sum_times, times_sum}
use Rattle.books.specs.Formula.{kilograms, Timed, Weighed}
use Rattle.books.specs.declared.formula.FormulaLeg.{FormulaLeg}
use Rattle.books.proofs.Formulas.{apart, squared}

-- every cost lies from -2^40 to 2^40
pub in_range : (leg : FormulaLeg) (m : ℕ) → Timed leg → Weighed leg → m ≤ leg.hi → (neg_ℤ (pos (2 ^ 40)) ≤ℤ kilograms leg m) × (kilograms leg m ≤ℤ pos (2 ^ 40))
unfolding kilograms
in_range leg m times weights h =
    let near : apart m leg.t ≤ 4095 = omega arith in
    let square : apart m leg.t * apart m leg.t ≤ 4095 * 4095 = mul-le-mul near near in
    let varying : leg.q * (apart m leg.t * apart m leg.t) ≤ 65535 * (4095 * 4095) = mul-le-mul weights.0 square in
    rw (squared m leg.t) (omega (arith, ints), omega (arith, ints))

-- so the amount that is made of a cost has the cost's row
pub paid : (leg : FormulaLeg) (m : ℕ) (v : ℤ) → Timed leg → Weighed leg → m ≤ leg.hi → v ≡ nearest (kilograms leg m) → single (nearest v) ≡ single (kilograms leg m)
paid leg m v times weights h e =
    let b = in_range leg m times weights h in
    let same : nearest (kilograms leg m) ≡ kilograms leg m = nearest_same (kilograms leg m) (omega (arith, ints)) (omega (arith, ints)) in
    ap single (ap nearest (e ∙ same) ∙ same)

-- the square of one more
plus_one : (d : ℤ) → (d +ℤ pos 1) *ℤ (d +ℤ pos 1) ≡ d *ℤ d +ℤ (d +ℤ d) +ℤ pos 1
plus_one d = omega (arith, ints, sum_times d (pos 1) (d +ℤ pos 1), times_sum d d (pos 1))

-- q times the square of one more
weighed_one : (q d : ℤ) → q *ℤ ((d +ℤ pos 1) *ℤ (d +ℤ pos 1)) ≡ q *ℤ (d *ℤ d) +ℤ (q *ℤ d +ℤ q *ℤ d) +ℤ q
weighed_one q d =
    rw (plus_one d) (omega (arith, ints, times_sum q (d *ℤ d +ℤ (d +ℤ d)) (pos 1), times_sum q (d *ℤ d) (d +ℤ d), times_sum q d d))

-- three values: the first step is 2 e + q, the second 2 f + q, and f is q more than e
second_difference : (q : ℕ) (x y z e f : ℤ) → y ≡ x +ℤ (e +ℤ e) +ℤ pos q → z ≡ y +ℤ (f +ℤ f) +ℤ pos q → f ≡ e +ℤ pos q → (y -ℤ x) ≤ℤ (z -ℤ y)
second_difference q x y z e f p₁ p₂ p₃ = omega (arith, ints)

-- r added to both sides
one_more : (q v w r e : ℤ) → w ≡ v +ℤ e +ℤ q → w +ℤ r ≡ v +ℤ r +ℤ e +ℤ q
one_more q v w r e p = omega (arith, ints)

-- three values of the formula, one minute apart
rising : (q : ℕ) (d r : ℤ) (by : ℤ → ℤ) → ((v : ℤ) → by v ≡ pos q *ℤ (v *ℤ v) +ℤ r) → (by (d +ℤ pos 1) -ℤ by d) ≤ℤ (by (d +ℤ pos 1 +ℤ pos 1) -ℤ by (d +ℤ pos 1))
rising q d r by is =
    second_difference q (by d) (by (d +ℤ pos 1)) (by (d +ℤ pos 1 +ℤ pos 1)) (pos q *ℤ d) (pos q *ℤ (d +ℤ pos 1))
    (up d)
    (up (d +ℤ pos 1))
    (times_sum (pos q) d (pos 1) ∙ ap (λ (v : ℤ). pos q *ℤ d +ℤ v) (times_one q))
  where
    up : (v : ℤ) → by (v +ℤ pos 1) ≡ by v +ℤ (pos q *ℤ v +ℤ pos q *ℤ v) +ℤ pos q
    up v = is (v +ℤ pos 1) ∙ one_more (pos q) (pos q *ℤ (v *ℤ v)) _ r (pos q *ℤ v +ℤ pos q *ℤ v) (weighed_one (pos q) v) ∙ ap (λ (w : ℤ). w +ℤ (pos q *ℤ v +ℤ pos q *ℤ v) +ℤ pos q) (sym (is v))

    times_one : (q : ℕ) → pos q *ℤ pos 1 ≡ pos q
    times_one q = omega (arith, ints)

-- the step rises by 2 q with each minute
pub steps_rise : (leg : FormulaLeg) (m : ℕ) → ByNumber (minus (single (kilograms leg (m + 1))) (single (kilograms leg m))) (minus (single (kilograms leg (m + 1 + 1))) (single (kilograms leg (m + 1))))
unfolding kilograms minus single
steps_rise leg m =
    let one : pos (m + 1) -ℤ pos leg.t ≡ pos m -ℤ pos leg.t +ℤ pos 1 = omega (arith, ints) in
    let two : pos (m + 1 + 1) -ℤ pos leg.t ≡ pos m -ℤ pos leg.t +ℤ pos 1 +ℤ pos 1 = omega (arith, ints) in
    let by : ℤ → ℤ = λ v. pos leg.q *ℤ (v *ℤ v) +ℤ leg.r in
    simp (one, two) (rising leg.q (pos m -ℤ pos leg.t) leg.r by (λ v. refl))
