-- The method: a box of bounds, one interval for each leg, that keeps a cheapest timing while it shrinks.
use Rattle.std.proofs.Common.{◌≡◌, ℕ, zero, suc, ◌+◌, ◌-◌, ◌<◌, ◌≤◌, ◌≢◌, sym, inl, inr, ⊎_elim, add-zero, arith}
use native.Mathlib.Decide.{ℕ_discrete, dec_le, dec_lt}
use Rattle.amounts.specs.Rows.{Row}
use Rattle.amounts.specs.Orders.{Order}
use Rattle.books.specs.Meaning.{Meaning, IsLeg, Convex, step}
use Rattle.optimum.specs.Rotation.{put, Settings, reached, earliest, latest, cost_of_timing, Bounded, OnTime, Timing, Cheapest}
use Rattle.optimum.specs.Method.{Fits, InBox, Held, Matched, Closed, Boxed}
use Rattle.amounts.specs.RowLaws.{le_refl}
use Rattle.optimum.proofs.RowLaws.{le_exchange}
use Rattle.optimum.proofs.Sums.{put_same, put_other, reached_onward, reached_mono, reached_gap, reached_tight, spent_same}
use Rattle.optimum.proofs.Sums.{moved, moved_to, moved_from, moved_other, reached-moved, spent-moved}
use Rattle.optimum.proofs.Reach.{keeps_same, earliest_last, latest_last}

-- leg i of the first k can be longer, and among such legs its next step is least
abbrev pub LeastNext : Meaning → (Row → Row → Type 0) → (ℕ → ℕ) → (ℕ → ℕ) → ℕ → ℕ → Type 0
LeastNext b le l u k i =
    (1 ≤ i) × (i ≤ k) × (l i < u i) × ((j : ℕ) → 1 ≤ j → j ≤ k → l j < u j → le (step b i (l i)) (step b j (l j)))

-- leg i of the first k can be shorter, and among such legs its last step is greatest
abbrev pub GreatestLast : Meaning → (Row → Row → Type 0) → (ℕ → ℕ) → (ℕ → ℕ) → ℕ → ℕ → Type 0
GreatestLast b le l u k i =
    (1 ≤ i) × (i ≤ k) × (l i < u i) ×
    ((j : ℕ) → 1 ≤ j → j ≤ k → l j < u j → le (step b j (u j - 1)) (step b i (u i - 1)))

-- ---- boxes

module _ {n : ℕ} {l u z : ℕ → ℕ} where
  -- a list whose leg i is longer than l is in the box raised there
  box_raised : (i : ℕ) → InBox n l u z → l i < z i → InBox n (put l i (l i + 1)) u z
  box_raised i box more q p h =
      elim (ℕ_discrete q i) [
        | yes e ↦ rw (e, put_same l i (l i + 1)) (omega arith, rw e at (box q p h).1)
        | no ne ↦ rw (put_other l i (l i + 1) ne) (box q p h)
      ]

  -- a list whose leg i is shorter than u is in the box lowered there
  box_lowered : (i : ℕ) → InBox n l u z → z i < u i → InBox n l (put u i (u i - 1)) z
  box_lowered i box less q p h =
      elim (ℕ_discrete q i) [
        | yes e ↦ rw (e, put_same u i (u i - 1)) (rw e at (box q p h).0, omega arith)
        | no ne ↦ rw (put_other u i (u i - 1) ne) (box q p h)
      ]

  -- a minute that leg j has to spare and leg i has room for leaves a list in its box
  pub box_moved : (j i : ℕ) → j ≢ i → InBox n l u z → l j < z j → z i < u i → InBox n l u (moved z j i)
  box_moved j i ne box spare room q p h =
      elim (ℕ_discrete q i) [ yes e ↦ to e | no far ↦ elim (ℕ_discrete q j) [ yes e ↦ from e | no other ↦ rw (moved_other z j i other far) old ] ]
    where
      old : (l q ≤ z q) × (z q ≤ u q)
      old = box q p h

      to : q ≡ i → (l q ≤ moved z j i q) × (moved z j i q ≤ u q)
      to e = rw (e, moved_to z j i) (let kept : (l i ≤ z i) × (z i ≤ u i) = rw e at old in omega arith)

      from : q ≡ j → (l q ≤ moved z j i q) × (moved z j i q ≤ u q)
      from e = rw (e, moved_from z j i ne) (let kept : (l j ≤ z j) × (z j ≤ u j) = rw e at old in omega arith)

-- no leg is shorter for one minute more, and none longer for one less
put_up : (f : ℕ → ℕ) (i q : ℕ) → f q ≤ put f i (f i + 1) q
put_up f i q =
    elim (ℕ_discrete q i) [
      | yes e ↦ rw (e, put_same f i (f i + 1)) (omega arith)
      | no ne ↦ omega (arith, put_other f i (f i + 1) ne)
    ]

put_down : (f : ℕ → ℕ) (i q : ℕ) → put f i (f i - 1) q ≤ f q
put_down f i q =
    elim (ℕ_discrete q i) [
      | yes e ↦ rw (e, put_same f i (f i - 1)) (omega arith)
      | no ne ↦ omega (arith, put_other f i (f i - 1) ne)
    ]

-- ---- the box from start to end

-- where l reaches the end no earlier than the total, it is the only timing of its box
only_l :
    (b : Meaning) (s : Settings) (l u : ℕ → ℕ) → earliest b.legs s b.legs ≤ reached l b.legs → 1 ≤ b.legs →
    (z : ℕ → ℕ) → Timing b.legs s z → InBox b.legs l u z → (i : ℕ) → 1 ≤ i → i ≤ b.legs → l i ≡ z i
only_l b s l u all h z keeps box =
    let window = keeps.windows b.legs h (omega arith) in
    reached_tight l z b.legs (λ i p q. (box i p q).0) (omega (arith, earliest_last b.legs s, latest_last b.legs s))

module _ {le : Row → Row → Type 0} {b : Meaning} {s : Settings} {l u : ℕ → ℕ} where
  -- the first box lies in the bounds and holds every timing
  pub boxed_start :
      {places : ℕ} → Order places le → ((i : ℕ) → IsLeg b i → (s.low i ≤ l i) × (u i ≤ s.high i)) →
      (z : ℕ → ℕ) × Timing b.legs s z → ((y : ℕ → ℕ) → Timing b.legs s y → InBox b.legs l u y) → Boxed b le s l u 0
  boxed_start o inside some holds =
      record {
        inside = λ i leg. let held = holds some.0 some.1 i leg.0 leg.1 in let around = inside i leg in omega arith;
        early = λ j p h. absurd (omega arith);
        late = λ j p h. absurd (omega arith);
        some = (some.0, some.1, holds some.0 some.1);
        best = λ y keeps. (y, keeps, holds y keeps, le_refl o _);
      }

  -- where l is too early for stop k + 1, a leg can be raised
  pub can_raise :
      {k : ℕ} → Boxed b le s l u k → k + 1 ≤ b.legs → reached l (k + 1) < earliest b.legs s (k + 1) →
      (j : ℕ) × (1 ≤ j) × (j ≤ k + 1) × (l j < u j)
  can_raise {k} boxed h short =
      let window = boxed.some.1.windows (k + 1) (omega arith) h in
      let gap = reached_gap l boxed.some.0 (k + 1) (omega arith) in
      let held = boxed.some.2 gap.0 gap.1 (omega arith) in
      (gap.0, gap.1, gap.2, omega arith)

  -- one stop more is settled
  pub settle :
      {k : ℕ} → Boxed b le s l u k → earliest b.legs s (k + 1) ≤ reached l (k + 1) → Closed b s u (k + 1) → Boxed b le s l u (k + 1)
  settle {k} boxed soon closed =
      record {
        inside = boxed.inside;
        early = λ j p h. elim (ℕ_discrete j (k + 1)) [ yes e ↦ rw e soon | no ne ↦ boxed.early j p (omega arith) ];
        late = λ j p h. elim (ℕ_discrete j (k + 1)) [ yes e ↦ rw e closed | no ne ↦ boxed.late j p (omega arith) ];
        some = boxed.some;
        best = boxed.best;
      }

  -- where u is too late for stop k + 1, a leg can be lowered
  pub can_lower :
      {k : ℕ} → Boxed b le s l u k → k + 1 ≤ b.legs → latest b.legs s (k + 1) < reached u (k + 1) →
      (j : ℕ) × (1 ≤ j) × (j ≤ k + 1) × (l j < u j)
  can_lower {k} boxed h long =
      let window = boxed.some.1.windows (k + 1) (omega arith) h in
      let gap = reached_gap boxed.some.0 u (k + 1) (omega arith) in
      let held = boxed.some.2 gap.0 gap.1 (omega arith) in
      (gap.0, gap.1, gap.2, omega arith)

  -- where l reaches the end no earlier than the total, it is cheapest
  pub finish :
      {k : ℕ} → Boxed b le s l u k → earliest b.legs s b.legs ≤ reached l b.legs → 1 ≤ b.legs → Cheapest b le s l
  finish boxed all h = record { timing = timing; least = least }
    where
      same : (z : ℕ → ℕ) → Timing b.legs s z → InBox b.legs l u z → (i : ℕ) → 1 ≤ i → i ≤ b.legs → l i ≡ z i
      same = only_l b s l u all h

      timing : Timing b.legs s l
      timing = let z = boxed.some in keeps_same b.legs s z.0 l b.legs (λ i p q. sym (same z.0 z.1 z.2 i p q)) z.1

      least : (y : ℕ → ℕ) → Timing b.legs s y → le (cost_of_timing b l) (cost_of_timing b y)
      least y keeps = let z = boxed.best y keeps in rw (spent_same b l z.0 b.legs (same z.0 z.1 z.2)) z.3

-- ---- steps

module _ {places : ℕ} {le : Row → Row → Type 0} (o : Order places le) (b : Meaning) (convex : Convex le b) where
  -- steps never fall, over any distance
  steps_rise : (i m d : ℕ) → IsLeg b i → b.lo i ≤ m → m + d + 1 ≤ b.hi i → le (step b i m) (step b i (m + d))
  steps_rise i m zero leg lo hi = rw (add-zero m) (le_refl o _)
  steps_rise i m (suc d) leg lo hi =
      let e : m + suc d ≡ m + d + 1 = omega arith in
      rw e (o.transitive _ _ _ (steps_rise i m d leg lo (omega arith)) (convex i (m + d) leg (omega arith) (omega arith)))

  -- the same between two minutes of a leg's bounds
  pub steps_between :
      (s : Settings) → Fits b s → (i m m' : ℕ) → IsLeg b i → s.low i ≤ m → m ≤ m' → m' < s.high i →
      le (step b i m) (step b i m')
  steps_between s fit i m m' leg lo h hi =
      let ends = fit i leg in
      let e : m' ≡ m + (m' - m) = omega arith in
      rw e (steps_rise i m (m' - m) leg (omega arith) (omega arith))

-- ---- one move

module _ {places : ℕ} {le : Row → Row → Type 0} {b : Meaning} {s : Settings} (o : Order places le) (convex : Convex le b) (fit : Fits b s) where
  module _ {l u : ℕ → ℕ} {k : ℕ} (boxed : Boxed b le s l u k) (h : k + 1 ≤ b.legs) (z : ℕ → ℕ) (keeps : Timing b.legs s z) (box : InBox b.legs l u z) where
    -- a minute moved from leg j to leg i, both before the first stop that is not settled
    one_move :
        (j i : ℕ) → j ≢ i → 1 ≤ j → j ≤ k + 1 → 1 ≤ i → i ≤ k + 1 → l j < z j → z i < u i →
        le (step b i (z i)) (step b j (z j - 1)) →
        Timing b.legs s (moved z j i) × InBox b.legs l u (moved z j i) × le (cost_of_timing b (moved z j i)) (cost_of_timing b z)
    one_move j i ne pj hj pi hi spare room gain = (record { bounds = bounds; windows = windows }, held, cheaper)
      where
        held : InBox b.legs l u (moved z j i)
        held = box_moved j i ne box spare room

        cheaper : le (cost_of_timing b (moved z j i)) (cost_of_timing b z)
        cheaper = le_exchange o _ _ _ _ (spent-moved b z j i b.legs pj (omega arith) pi (omega arith) ne (omega arith)) gain

        bounds : (q : ℕ) → 1 ≤ q → q ≤ b.legs → Bounded s (moved z j i) q
        bounds q p within = let here = held q p within in let around = boxed.inside q (p, within) in omega arith

        settled : (q : ℕ) → 1 ≤ q → q ≤ b.legs → q ≤ k → OnTime b.legs s (moved z j i) q
        settled q p within before =
            let above = reached_mono l (moved z j i) q (λ a pa ha. (held a pa (omega arith)).0) in
            let below = reached_mono (moved z j i) u q (λ a pa ha. (held a pa (omega arith)).1) in
            let onward = reached_onward (moved z j i) q b.legs within in
            let same = reached-moved z j i b.legs pj (omega arith) pi (omega arith) ne (omega arith) in
            let end = keeps.windows b.legs (omega arith) (omega arith) in
            let day = latest_last b.legs s in
            (omega (arith, boxed.early q p before), ⊎_elim (λ long. omega arith) (λ total. omega arith) (boxed.late q p before))

        windows : (q : ℕ) → 1 ≤ q → q ≤ b.legs → OnTime b.legs s (moved z j i) q
        windows q p within =
            elim (dec_le q k) [
              | yes before ↦ settled q p within before
              | no after ↦ rw (reached-moved z j i q pj (omega arith) pi (omega arith) ne (omega arith)) (keeps.windows q p within)
            ]

    -- where l is too early, the raised box has a timing that costs no more
    raised :
        (i : ℕ) → reached l (k + 1) < earliest b.legs s (k + 1) → LeastNext b le l u (k + 1) i →
        Matched b le s (put l i (l i + 1)) u z
    raised i short next =
        elim (dec_lt (l i) (z i)) [
          | yes more ↦ (z, keeps, box_raised i box more, le_refl o _)
          | no least ↦ swap least (reached_gap l z (k + 1) (omega (arith, keeps.windows (k + 1) (omega arith) h)))
        ]
      where
        swap : (l i < z i → ⊥) → (j : ℕ) × (1 ≤ j) × (j ≤ k + 1) × (l j < z j) → Matched b le s (put l i (l i + 1)) u z
        swap least (j, pj, hj, spare) =
            let here = box i next.0 (omega arith) in
            let there = box j pj (omega arith) in
            let around = boxed.inside j (pj, omega arith) in
            let own : z i ≡ l i = omega arith in
            let room = next.2 in
            let rise = steps_between o b convex s fit j (l j) (z j - 1) (pj, omega arith) (omega arith) (omega arith) (omega arith) in
            let gain : le (step b i (z i)) (step b j (z j - 1)) = rw own (o.transitive _ _ _ (next.3 j pj hj (omega arith)) rise) in
            let new = one_move j i (λ e. least (rw e at spare)) pj hj next.0 next.1 spare (omega arith) gain in
            (moved z j i, new.0, box_raised i new.1 (omega (arith, moved_to z j i)), new.2)

    -- where u is too late, the lowered box has a timing that costs no more
    lowered :
        (i : ℕ) → latest b.legs s (k + 1) < reached u (k + 1) → GreatestLast b le l u (k + 1) i →
        Matched b le s l (put u i (u i - 1)) z
    lowered i long last =
        elim (dec_lt (z i) (u i)) [
          | yes less ↦ (z, keeps, box_lowered i box less, le_refl o _)
          | no most ↦ swap most (reached_gap z u (k + 1) (omega (arith, keeps.windows (k + 1) (omega arith) h)))
        ]
      where
        swap : (z i < u i → ⊥) → (j : ℕ) × (1 ≤ j) × (j ≤ k + 1) × (z j < u j) → Matched b le s l (put u i (u i - 1)) z
        swap most (j, pj, hj, room) =
            let here = box i last.0 (omega arith) in
            let there = box j pj (omega arith) in
            let around = boxed.inside j (pj, omega arith) in
            let own : z i ≡ u i = omega arith in
            let spare = last.2 in
            let ne : i ≢ j = λ e. most (rw e room) in
            let rise = steps_between o b convex s fit j (z j) (u j - 1) (pj, omega arith) (omega arith) (omega arith) (omega arith) in
            let gain : le (step b j (z j)) (step b i (z i - 1)) = rw own (o.transitive _ _ _ rise (last.3 j pj hj (omega arith))) in
            let new = one_move i j ne last.0 last.1 pj hj (omega arith) room gain in
            (moved z i j, new.0, box_lowered i new.1 (omega (arith, moved_from z i j ne)), new.2)

  -- where l is too early for stop k + 1, the least next step is taken
  pub raise :
      {l u : ℕ → ℕ} {k : ℕ} (i : ℕ) → Boxed b le s l u k → k + 1 ≤ b.legs → reached l (k + 1) < earliest b.legs s (k + 1) →
      LeastNext b le l u (k + 1) i → Boxed b le s (put l i (l i + 1)) u k
  raise {l} {u} {k} i boxed h short next = record { inside = inside; early = early; late = boxed.late; some = some; best = best }
    where
      from : (z : ℕ → ℕ) → Timing b.legs s z → InBox b.legs l u z → Matched b le s (put l i (l i + 1)) u z
      from z keeps box = raised boxed h z keeps box i short next

      some : Held b s (put l i (l i + 1)) u
      some = let z = boxed.some in let r = from z.0 z.1 z.2 in (r.0, r.1, r.2)

      best : (y : ℕ → ℕ) → Timing b.legs s y → Matched b le s (put l i (l i + 1)) u y
      best y keeps = let z = boxed.best y keeps in let r = from z.0 z.1 z.2 in (r.0, r.1, r.2, o.transitive _ _ _ r.3 z.3)

      early : (j : ℕ) → 1 ≤ j → j ≤ k → earliest b.legs s j ≤ reached (put l i (l i + 1)) j
      early j p q = omega (arith, boxed.early j p q, reached_mono l (put l i (l i + 1)) j (λ a pa ha. put_up l i a))

      inside : (q : ℕ) → IsLeg b q → (s.low q ≤ put l i (l i + 1) q) × (put l i (l i + 1) q ≤ u q) × (u q ≤ s.high q)
      inside q leg = let held = some.2 q leg.0 leg.1 in let old = boxed.inside q leg in omega (arith, put_up l i q)

  -- where u is too late for stop k + 1, the greatest last step is given up
  pub lower :
      {l u : ℕ → ℕ} {k : ℕ} (i : ℕ) → Boxed b le s l u k → k + 1 ≤ b.legs → latest b.legs s (k + 1) < reached u (k + 1) →
      GreatestLast b le l u (k + 1) i → Boxed b le s l (put u i (u i - 1)) k
  lower {l} {u} {k} i boxed h long last = record { inside = inside; early = boxed.early; late = late; some = some; best = best }
    where
      from : (z : ℕ → ℕ) → Timing b.legs s z → InBox b.legs l u z → Matched b le s l (put u i (u i - 1)) z
      from z keeps box = lowered boxed h z keeps box i long last

      some : Held b s l (put u i (u i - 1))
      some = let z = boxed.some in let r = from z.0 z.1 z.2 in (r.0, r.1, r.2)

      best : (y : ℕ → ℕ) → Timing b.legs s y → Matched b le s l (put u i (u i - 1)) y
      best y keeps = let z = boxed.best y keeps in let r = from z.0 z.1 z.2 in (r.0, r.1, r.2, o.transitive _ _ _ r.3 z.3)

      late : (j : ℕ) → 1 ≤ j → j ≤ k → Closed b s (put u i (u i - 1)) j
      late j p q =
          let shorter = reached_mono (put u i (u i - 1)) u j (λ a pa ha. put_down u i a) in
          ⊎_elim (λ long. inl (omega arith)) inr (boxed.late j p q)

      inside : (q : ℕ) → IsLeg b q → (s.low q ≤ l q) × (l q ≤ put u i (u i - 1) q) × (put u i (u i - 1) q ≤ s.high q)
      inside q leg = let held = some.2 q leg.0 leg.1 in let old = boxed.inside q leg in omega (arith, put_down u i q)
