-- Prices: which prices keep the rule for a cheapest timing.
use Rattle.std.proofs.Common.{◌≡◌, ℕ, zero, suc, ◌+◌, ◌-◌, ◌<◌, ◌≤◌, ◌≢◌, pos, ◌+ℤ◌, ◌-ℤ◌, sym, add-zero, arith}
use native.Mathlib.Decide.{ℕ_discrete, dec_le}
use Rattle.std.proofs.lemmas.Int.{ints}
use Rattle.amounts.specs.Rows.{Row, none, plus, times}
use Rattle.amounts.specs.Orders.{Order}
use Rattle.books.specs.Meaning.{Meaning, IsLeg, Convex, step}
use Rattle.optimum.specs.Rotation.{Settings, reached, earliest, latest, Bounded, OnTime, Timing, Cheapest}
use Rattle.optimum.specs.declared.Price.{Price}
use Rattle.optimum.specs.Prices.{Named, worth, PriceRule}
use Rattle.optimum.specs.Method.{Fits, Safe}
use Rattle.amounts.specs.RowLaws.{le_refl, added_both, plus_assoc, times_sum}
use Rattle.optimum.proofs.RowLaws.{le_exchange_back, plus_difference, plus_times_zero, times_suc}
use Rattle.optimum.proofs.Sums.{moved, reached-moved, reached_unmoved, reached_sooner, reached-later, spent-moved}
use Rattle.optimum.proofs.Box.{box_moved, steps_between}

-- ---- prices by name

pub worth-step : (b : Meaning) (p : Price) → 1 ≤ p.leg → worth b p ≡ step b p.leg p.minute
unfolding worth
worth-step b p h = grind arith

pub worth-none : (b : Meaning) (p : Price) → p.leg ≡ 0 → worth b p ≡ none
unfolding worth
worth-none b p e = grind arith

-- ---- rows that no next step undercuts

-- a row that no next step undercuts at all
pub safe_low :
    {b : Meaning} {le : Row → Row → Type 0} {s : Settings} {x : ℕ → ℕ} {v : Row} (k : ℕ) →
    ((i : ℕ) → IsLeg b i → x i < s.high i → le v (step b i (x i))) → Safe b le s x v k
safe_low k low = record { right = λ i leg room h over. low i leg room; left = λ i leg room h over. low i leg room }

-- a row carried over stop k
pub safe_right :
    {b : Meaning} {le : Row → Row → Type 0} {s : Settings} {x : ℕ → ℕ} {v : Row} {k : ℕ} → Safe b le s x v k →
    earliest b.legs s k < reached x k → Safe b le s x v (k + 1)
safe_right {b} {le} {s} {x} {v} {k} safe free = record { right = λ i leg room h over. safe.right i leg room (omega arith) (past i over); left = left }
  where
    past :
        (i : ℕ) → ((j : ℕ) → k + 1 ≤ j → j < i → earliest b.legs s j < reached x j) → (j : ℕ) → k ≤ j → j < i →
        earliest b.legs s j < reached x j
    past i over j p h = elim (ℕ_discrete j k) [ yes e ↦ rw e free | no ne ↦ over j (omega arith) h ]

    left :
        (i : ℕ) → IsLeg b i → x i < s.high i → i ≤ k + 1 →
        ((j : ℕ) → i ≤ j → j < k + 1 → reached x j < latest b.legs s j) → le v (step b i (x i))
    left i leg room h over =
        elim (dec_le i k) [
          | yes before ↦ safe.left i leg room before (λ j p q. over j p (omega arith))
          | no after ↦ safe.right i leg room (omega arith) (past i (λ j p q. absurd (omega arith)))
        ]

pub safe_left :
    {b : Meaning} {le : Row → Row → Type 0} {s : Settings} {x : ℕ → ℕ} {v : Row} {k : ℕ} → Safe b le s x v (k + 1) →
    reached x k < latest b.legs s k → Safe b le s x v k
safe_left {b} {le} {s} {x} {v} {k} safe free = record { right = right; left = λ i leg room h over. safe.left i leg room (omega arith) (past i over) }
  where
    past :
        (i : ℕ) → ((j : ℕ) → i ≤ j → j < k → reached x j < latest b.legs s j) → (j : ℕ) → i ≤ j → j < k + 1 →
        reached x j < latest b.legs s j
    past i over j p h = elim (ℕ_discrete j k) [ yes e ↦ rw e free | no ne ↦ over j p (omega arith) ]

    right :
        (i : ℕ) → IsLeg b i → x i < s.high i → k ≤ i → ((j : ℕ) → k ≤ j → j < i → earliest b.legs s j < reached x j) →
        le v (step b i (x i))
    right i leg room h over =
        elim (dec_le i k) [
          | yes before ↦ safe.left i leg room (omega arith) (past i (λ j p q. absurd (omega arith)))
          | no after ↦ safe.right i leg room (omega arith) (λ j p q. over j (omega arith) q)
        ]

-- ---- the last step of a leg

-- a minute moved from leg j to leg i, over stops that bear it, leaves a timing
moved_timing :
    (n : ℕ) (s : Settings) (x : ℕ → ℕ) (j i : ℕ) → Timing n s x → j ≢ i → 1 ≤ j → j ≤ n → 1 ≤ i → i ≤ n → s.low j < x j →
    x i < s.high i → ((k : ℕ) → j ≤ k → k < i → earliest n s k < reached x k) →
    ((k : ℕ) → i ≤ k → k < j → reached x k < latest n s k) → Timing n s (moved x j i)
moved_timing n s x j i keeps ne pj hj pi hi spare room sooner later = record { bounds = box_moved j i ne keeps.bounds spare room; windows = windows }
  where
    windows : (k : ℕ) → 1 ≤ k → k ≤ n → OnTime n s (moved x j i) k
    windows k p h =
        elim (dec_le j k) [
          | yes from ↦ elim (dec_le i k) [ yes to ↦ both from to | no to ↦ first from (omega arith) ]
          | no from ↦ elim (dec_le i k) [ yes to ↦ second (omega arith) to | no to ↦ neither (omega arith) (omega arith) ]
        ]
      where
        old : OnTime n s x k
        old = keeps.windows k p h

        both : j ≤ k → i ≤ k → OnTime n s (moved x j i) k
        both from to = omega (arith, reached-moved x j i k pj from pi to ne (omega arith))

        first : j ≤ k → k < i → OnTime n s (moved x j i) k
        first from to = omega (arith, reached_sooner x j i k pj from to (omega arith), sooner k from to)

        second : k < j → i ≤ k → OnTime n s (moved x j i) k
        second from to = omega (arith, reached-later x j i k pi to from, later k to from)

        neither : k < j → k < i → OnTime n s (moved x j i) k
        neither from to = omega (arith, reached_unmoved x j i k from to)

-- of a cheapest timing no last step is above a next step to which its minute can be moved
pub safe_last :
    {places : ℕ} {le : Row → Row → Type 0} {b : Meaning} {s : Settings} {x : ℕ → ℕ} → Order places le → Convex le b →
    Fits b s → Cheapest b le s x → (i : ℕ) → IsLeg b i → s.low i < x i → Safe b le s x (step b i (x i - 1)) i
safe_last {places} {le} {b} {s} {x} o convex fit cheapest i leg spare =
    record {
      right = λ q at-q room h over. by q at-q room over (λ j p after. absurd (omega arith));
      left = λ q at-q room h over. by q at-q room (λ j p after. absurd (omega arith)) over;
    }
  where
    own : x i < s.high i → le (step b i (x i - 1)) (step b i (x i))
    own room = steps_between o b convex s fit i (x i - 1) (x i) leg (omega arith) (omega arith) room

    by :
        (q : ℕ) → IsLeg b q → x q < s.high q → ((j : ℕ) → i ≤ j → j < q → earliest b.legs s j < reached x j) →
        ((j : ℕ) → q ≤ j → j < i → reached x j < latest b.legs s j) → le (step b i (x i - 1)) (step b q (x q))
    by q at-q room sooner later = elim (ℕ_discrete q i) [ yes e ↦ rw e (own (rw e at room)) | no ne ↦ other (λ e. ne (sym e)) ]
      where
        other : i ≢ q → le (step b i (x i - 1)) (step b q (x q))
        other ne =
            let (pi, hi) = leg in
            let (pq, hq) = at-q in
            let new = moved_timing b.legs s x i q cheapest.timing ne pi hi pq hq spare room sooner later in
            let change = spent-moved b x i q b.legs pi hi pq hq ne (omega arith) in
            le_exchange_back o _ _ _ _ change (cheapest.least (moved x i q) new)

-- ---- the price rule

module _ {places : ℕ} {le : Row → Row → Type 0} (o : Order places le) (b : Meaning) where
  -- a price that is at most each of d steps from m on is at most what they cost
  price_up :
      (i m : ℕ) (w : Row) (d : ℕ) → ((c : ℕ) → c < d → le w (step b i (m + c))) →
      le (plus (b.cost i m) (times (pos d) w)) (b.cost i (m + d))
  unfolding step
  price_up i m w zero above = rw (plus_times_zero (b.cost i m) w, add-zero m) (le_refl o _)
  price_up i m w (suc d) above =
      let e : m + suc d ≡ m + d + 1 = omega arith in
      let sum = added_both o _ _ _ _ (price_up i m w d (λ c h. above c (omega arith))) (above d (omega arith)) in
      rw (times_suc d w, ← plus_assoc (b.cost i m) (times (pos d) w) w, e) (rw (plus_difference (b.cost i (m + d)) (b.cost i (m + d + 1))) at sum)

  -- a price that is at least each of d steps from m on is at least what they cost
  price_down :
      (i m : ℕ) (w : Row) (d : ℕ) → ((c : ℕ) → c < d → le (step b i (m + c)) w) →
      le (b.cost i (m + d)) (plus (b.cost i m) (times (pos d) w))
  unfolding step
  price_down i m w zero below = rw (plus_times_zero (b.cost i m) w, add-zero m) (le_refl o _)
  price_down i m w (suc d) below =
      let e : m + suc d ≡ m + d + 1 = omega arith in
      let sum = added_both o _ _ _ _ (price_down i m w d (λ c h. below c (omega arith))) (below d (omega arith)) in
      rw (times_suc d w, ← plus_assoc (b.cost i m) (times (pos d) w) w, e) (rw (plus_difference (b.cost i (m + d)) (b.cost i (m + d + 1))) at sum)

-- a price between the last and the next step of a leg's minutes keeps the rule at that leg
leg_rule :
    {places : ℕ} {le : Row → Row → Type 0} → Order places le → (b : Meaning) → Convex le b → (s : Settings) → Fits b s →
    (x : ℕ → ℕ) (w : Row) (i m : ℕ) → IsLeg b i → Bounded s x i → (x i < s.high i → le w (step b i (x i))) →
    (s.low i < x i → le (step b i (x i - 1)) w) → s.low i ≤ m → m ≤ s.high i →
    le (plus (b.cost i (x i)) (times (pos m -ℤ pos (x i)) w)) (b.cost i m)
leg_rule {places} {le} o b convex s fit x w i m leg bound next last lo hi =
    elim (dec_le (x i) m) [
      | yes more ↦ longer more
      | no less ↦ shorter (omega arith)
    ]
  where
    rise : (a c : ℕ) → s.low i ≤ a → a ≤ c → c < s.high i → le (step b i a) (step b i c)
    rise a c = steps_between o b convex s fit i a c leg

    longer : x i ≤ m → le (plus (b.cost i (x i)) (times (pos m -ℤ pos (x i)) w)) (b.cost i m)
    longer h =
        let d = m - x i in
        let t : pos m -ℤ pos (x i) ≡ pos d = omega (arith, ints) in
        let is : x i + d ≡ m = omega arith in
        rw t (rw is at (price_up o b i (x i) w d (λ c q. o.transitive _ _ _ (next (omega arith)) (rise (x i) (x i + c) (omega arith) (omega arith) (omega arith)))))

    shorter : m < x i → le (plus (b.cost i (x i)) (times (pos m -ℤ pos (x i)) w)) (b.cost i m)
    shorter h =
        let d = x i - m in
        let t = pos m -ℤ pos (x i) in
        let none_left : pos d +ℤ t ≡ pos 0 = omega (arith, ints) in
        let is : m + d ≡ x i = omega arith in
        let down = rw is at (price_down o b i m w d (λ c q. o.transitive _ _ _ (rise (m + c) (x i - 1) (omega arith) (omega arith) (omega arith)) (last (omega arith)))) in
        let moved = o.added _ _ (times t w) down in
        rw (plus_assoc (b.cost i m) (times (pos d) w) (times t w), ← times_sum (pos d) t w, none_left, plus_times_zero (b.cost i m) w) at moved

-- prices that are safe, no less than the last steps, and turn at the stops only where they may, keep the rule
pub price_rule :
    {places : ℕ} {le : Row → Row → Type 0} {b : Meaning} {s : Settings} {x : ℕ → ℕ} {p : ℕ → Price} → Order places le →
    Convex le b → Fits b s → Timing b.legs s x → ((i : ℕ) → IsLeg b i → Named b (p i)) →
    ((i : ℕ) → IsLeg b i → Safe b le s x (worth b (p i)) i) →
    ((i : ℕ) → IsLeg b i → s.low i < x i → le (step b i (x i - 1)) (worth b (p i))) →
    ((k : ℕ) → 1 ≤ k → k < b.legs → earliest b.legs s k < reached x k → le (worth b (p k)) (worth b (p (k + 1)))) →
    ((k : ℕ) → 1 ≤ k → k < b.legs → reached x k < latest b.legs s k → le (worth b (p (k + 1))) (worth b (p k))) →
    PriceRule b le s x p
price_rule {places} {le} {b} {s} {x} {p} o convex fit timing named safe last rises falls = record { named = named; legs = legs; rises = rises; falls = falls }
  where
    legs :
        (i m : ℕ) → IsLeg b i → s.low i ≤ m → m ≤ s.high i →
        le (plus (b.cost i (x i)) (times (pos m -ℤ pos (x i)) (worth b (p i)))) (b.cost i m)
    legs i m leg lo hi =
        let own = λ (room : x i < s.high i). (safe i leg).right i leg room (omega arith) (λ j before after. absurd (omega arith)) in
        leg_rule o b convex s fit x (worth b (p i)) i m leg (timing.bounds i leg.0 leg.1) own (last i leg) lo hi
