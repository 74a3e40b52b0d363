-- Prices that keep the rule show a timing to be cheapest, and all cheapest timings cost the same.
use Rattle.std.proofs.Common.{◌≡◌, ℕ, zero, suc, ◌+◌, ◌-◌, ◌<◌, ◌≤◌, ℤ, pos, ◌+ℤ◌, ◌-ℤ◌, refl, add-one, arith}
use native.Mathlib.Decide.{dec_le}
use Rattle.std.proofs.lemmas.Int.{ints}
use Rattle.amounts.specs.Rows.{Row, none, plus, times, Same}
use Rattle.amounts.specs.Orders.{Order}
use Rattle.books.specs.Meaning.{Meaning}
use Rattle.optimum.specs.Rotation.{Settings, reached, spent, cost_of_timing, Bounded, OnTime, Timing, Cheapest}
use Rattle.optimum.specs.declared.Price.{Price}
use Rattle.optimum.specs.Prices.{worth, PriceRule}
use Rattle.amounts.specs.RowLaws.{le_refl, added_both, plus_assoc, times_sum}
use Rattle.optimum.proofs.RowLaws.{plus_swap, plus_medial, plus_times_zero, plus_times_gone, times_suc}
use Rattle.optimum.proofs.Reach.{earliest_last, latest_last}

module _ {places : ℕ} {le : Row → Row → Type 0} (o : Order places le) where
  -- two rows in order, both taken d times
  turn_up : (a v w : Row) (d : ℕ) → (0 < d → le w v) → le (plus a (times (pos d) w)) (plus a (times (pos d) v))
  turn_up a v w zero h = rw (plus_times_zero a w, plus_times_zero a v) (le_refl o a)
  turn_up a v w (suc d) h =
      let sum = added_both o _ _ _ _ (turn_up a v w d (λ some. h (omega arith))) (h (omega arith)) in
      rw (times_suc d w, times_suc d v, ← plus_assoc a (times (pos d) w) w, ← plus_assoc a (times (pos d) v) v) sum

  -- and taken d times less than none, which turns the order
  turn_down :
      (a v w : Row) (t : ℤ) (d : ℕ) → t +ℤ pos d ≡ pos 0 → (0 < d → le v w) → le (plus a (times t w)) (plus a (times t v))
  turn_down a v w t d e h =
      let sum = turn_up (plus (plus a (times t w)) (times t v)) w v d h in
      let left = plus_times_gone (plus a (times t w)) v t d e in
      let right = plus_times_gone (plus a (times t v)) w t d e in
      rw (left, plus_swap a (times t w) (times t v), right) at sum

module _ {places : ℕ} {le : Row → Row → Type 0} {b : Meaning} {s : Settings} {x : ℕ → ℕ} {p : ℕ → Price}
    (o : Order places le) (rule : PriceRule b le s x p) (y : ℕ → ℕ) (keeps : Timing b.legs s y) where
  -- how much later than x the minutes y reach stop k
  abbrev later : ℕ → ℤ
  later k = pos (reached y k) -ℤ pos (reached x k)

  -- at stop k the lateness is worth no more at the price after it
  over_stop :
      (k : ℕ) → 1 ≤ k → k < b.legs → (a : Row) →
      le (plus a (times (later k) (worth b (p (k + 1))))) (plus a (times (later k) (worth b (p k))))
  over_stop k h before a = elim (dec_le (reached x k) (reached y k)) [ yes late ↦ up late | no early ↦ down (omega arith) ]
    where
      window : OnTime b.legs s y k
      window = keeps.windows k h (omega arith)

      up :
          reached x k ≤ reached y k →
          le (plus a (times (later k) (worth b (p (k + 1))))) (plus a (times (later k) (worth b (p k))))
      up late =
          let d = reached y k - reached x k in
          let is : later k ≡ pos d = omega (arith, ints) in
          rw is (turn_up o a (worth b (p k)) (worth b (p (k + 1))) d (λ some. rule.falls k h before (omega arith)))

      down :
          reached y k < reached x k →
          le (plus a (times (later k) (worth b (p (k + 1))))) (plus a (times (later k) (worth b (p k))))
      down early =
          let d = reached x k - reached y k in
          let is : later k +ℤ pos d ≡ pos 0 = omega (arith, ints) in
          turn_down o a (worth b (p k)) (worth b (p (k + 1))) (later k) d is (λ some. rule.rises k h before (omega arith))

  -- summed by parts up to stop k
  by_parts : (k : ℕ) → k ≤ b.legs → le (plus (spent b x k) (times (later k) (worth b (p k)))) (spent b y k)
  unfolding spent reached
  by_parts zero h = rw (plus_times_zero none (worth b (p 0))) (le_refl o none)
  by_parts (suc k) h =
      let stops = carried k h (by_parts k (omega arith)) in
      let leg = rule.legs (suc k) (y (suc k)) (omega arith, h) bound.0 bound.1 in
      rw (is, times_sum (later k) δ w, plus_medial (spent b x k) _ (times (later k) w) (times δ w)) (added_both o _ _ _ _ stops leg)
    where
      w : Row
      w = worth b (p (suc k))

      δ : ℤ
      δ = pos (y (suc k)) -ℤ pos (x (suc k))

      bound : Bounded s y (suc k)
      bound = keeps.bounds (suc k) (omega arith) h

      is : later (suc k) ≡ later k +ℤ δ
      is = omega (arith, ints)

      carried :
          (k : ℕ) → suc k ≤ b.legs → le (plus (spent b x k) (times (later k) (worth b (p k)))) (spent b y k) →
          le (plus (spent b x k) (times (later k) (worth b (p (suc k))))) (spent b y k)
      carried zero q ih = rw (plus_times_zero none (worth b (p 1))) (rw (plus_times_zero none (worth b (p 0))) at ih)
      carried (suc k) q ih = o.transitive _ _ _ (rw add-one at (over_stop (suc k) (omega arith) (omega arith) (spent b x (suc k)))) ih

-- all timings reach the end at the total
same_end : (n : ℕ) (s : Settings) (x y : ℕ → ℕ) → Timing n s x → Timing n s y → reached x n ≡ reached y n
unfolding reached
same_end zero s x y first second = refl
same_end (suc n) s x y first second =
    let one = first.windows (suc n) (omega arith) (omega arith) in
    let other = second.windows (suc n) (omega arith) (omega arith) in
    omega (arith, earliest_last (suc n) s, latest_last (suc n) s)

-- minutes that are a timing, with prices that keep the rule, are cheapest
pub certified :
    {places : ℕ} {le : Row → Row → Type 0} {b : Meaning} {s : Settings} {x : ℕ → ℕ} {p : ℕ → Price} → Order places le →
    Timing b.legs s x → PriceRule b le s x p → Cheapest b le s x
certified {places} {le} {b} {s} {x} {p} o timing rule = record { timing = timing; least = least }
  where
    least : (y : ℕ → ℕ) → Timing b.legs s y → le (cost_of_timing b x) (cost_of_timing b y)
    least y keeps =
        let end = same_end b.legs s x y timing keeps in
        let even : pos (reached y b.legs) -ℤ pos (reached x b.legs) ≡ pos 0 = omega (arith, ints) in
        rw (even, plus_times_zero (cost_of_timing b x) (worth b (p b.legs))) at (by_parts o rule y keeps b.legs (omega arith))

-- cheapest timings cost the same
pub same_cost :
    {places : ℕ} {le : Row → Row → Type 0} {b : Meaning} {s : Settings} {x y : ℕ → ℕ} → Order places le → Cheapest b le s x →
    Cheapest b le s y → Same places (cost_of_timing b x) (cost_of_timing b y)
same_cost {x} {y} o first second = o.antisymmetric _ _ (first.least y second.timing) (second.least x first.timing)
