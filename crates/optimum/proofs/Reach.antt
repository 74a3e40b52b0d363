-- When stops can be reached: whether there is a timing, and what every timing keeps.
use Rattle.std.proofs.Common.{◌≡◌, ℕ, ◌+◌, ◌-◌, ◌<◌, ◌≤◌, min, max, arith}
use native.Mathlib.Decide.{ℕ_discrete}
use Rattle.optimum.specs.Rotation.{put, Settings, reached, earliest, latest, Bounded, OnTime, Keeps, Timing, Stuck}
use Rattle.optimum.specs.Method.{Reach, Between}
use Rattle.optimum.proofs.Sums.{put_same, put_other, reached_more, reached_past, reached_same}

-- what keeps the bounds and windows up to k keeps those up to j before it
pub keeps_less : (n : ℕ) (s : Settings) (x : ℕ → ℕ) (j k : ℕ) → j ≤ k → Keeps n s x k → Keeps n s x j
keeps_less n s x j k h keeps = record { bounds = λ i p q. keeps.bounds i p (omega arith); windows = λ i p q. keeps.windows i p (omega arith) }

-- it speaks of the minutes of the first k legs alone
pub keeps_same :
    (n : ℕ) (s : Settings) (x y : ℕ → ℕ) (k : ℕ) → ((i : ℕ) → 1 ≤ i → i ≤ k → x i ≡ y i) → Keeps n s x k → Keeps n s y k
keeps_same n s x y k same keeps =
    record {
      bounds = λ i p h. let e = same i p h in let old = keeps.bounds i p h in omega arith;
      windows = λ j p h. let e = reached_same x y j (λ i q le. same i q (omega arith)) in let old = keeps.windows j p h in omega arith;
    }

-- one leg more, of m minutes
reached_on : (x : ℕ → ℕ) (k m : ℕ) → reached (put x (k + 1) m) (k + 1) ≡ reached x k + m
reached_on x k m = omega (arith, reached_more (put x (k + 1) m) k, reached_past x (k + 1) m k (omega arith), put_same x (k + 1) m)

keeps_more :
    (n : ℕ) (s : Settings) (x : ℕ → ℕ) (k m : ℕ) → Keeps n s x k → s.low (k + 1) ≤ m → m ≤ s.high (k + 1) →
    earliest n s (k + 1) ≤ reached x k + m → reached x k + m ≤ latest n s (k + 1) → Keeps n s (put x (k + 1) m) (k + 1)
keeps_more n s x k m keeps lo hi early late = record { bounds = bounds; windows = windows }
  where
    bounds : (i : ℕ) → 1 ≤ i → i ≤ k + 1 → Bounded s (put x (k + 1) m) i
    bounds i p h =
        elim (ℕ_discrete i (k + 1)) [
          | yes e ↦ rw (e, put_same x (k + 1) m) (lo, hi)
          | no ne ↦ rw (put_other x (k + 1) m ne) (keeps.bounds i p (omega arith))
        ]

    windows : (j : ℕ) → 1 ≤ j → j ≤ k + 1 → OnTime n s (put x (k + 1) m) j
    windows j p h =
        elim (ℕ_discrete j (k + 1)) [
          | yes e ↦ rw (e, reached_on x k m) (early, late)
          | no ne ↦ rw (reached_past x (k + 1) m j (omega arith)) (keeps.windows j p (omega arith))
        ]

-- the total is the window of the last stop
pub earliest_last : (n : ℕ) (s : Settings) → earliest n s n ≡ s.total
unfolding earliest
earliest_last n s = grind arith

pub latest_last : (n : ℕ) (s : Settings) → latest n s n ≡ s.total
unfolding latest
latest_last n s = grind arith

-- ---- stop by stop, forwards

pub reach_start : (n : ℕ) (s : Settings) → Reach n s 0 0 0
unfolding reached
reach_start n s =
    record {
      ordered = omega arith;
      inside = λ x keeps. (omega arith, omega arith);
      attained = λ v p h. (λ i. 0, record { bounds = λ i p h. absurd (omega arith); windows = λ i p h. absurd (omega arith) }, omega arith);
    }

-- the earliest and the latest minute at which stop k + 1 can be reached, where stop k can be from e to f
abbrev pub soonest : ℕ → Settings → ℕ → ℕ → ℕ
soonest n s k e = max (earliest n s (k + 1)) (e + s.low (k + 1))

abbrev pub furthest : ℕ → Settings → ℕ → ℕ → ℕ
furthest n s k f = min (latest n s (k + 1)) (f + s.high (k + 1))

reach_next :
    {n : ℕ} {s : Settings} {k e f : ℕ} → Reach n s k e f → (x : ℕ → ℕ) → Keeps n s x (k + 1) →
    (soonest n s k e ≤ reached x (k + 1)) × (reached x (k + 1) ≤ furthest n s k f)
reach_next {n} {s} {k} {e} {f} r x keeps =
    let before = r.inside x (keeps_less n s x k (k + 1) (omega arith) keeps) in
    let bound = keeps.bounds (k + 1) (omega arith) (omega arith) in
    let window = keeps.windows (k + 1) (omega arith) (omega arith) in
    let all = reached_more x k in
    omega arith

pub reach_more :
    {n : ℕ} {s : Settings} {k e f : ℕ} → Reach n s k e f → s.low (k + 1) ≤ s.high (k + 1) →
    soonest n s k e ≤ furthest n s k f → Reach n s (k + 1) (soonest n s k e) (furthest n s k f)
reach_more {n} {s} {k} {e} {f} r bound some = record { ordered = some; inside = reach_next r; attained = attained }
  where
    attained :
        (v : ℕ) → soonest n s k e ≤ v → v ≤ furthest n s k f → (x : ℕ → ℕ) × Keeps n s x (k + 1) × (reached x (k + 1) ≡ v)
    attained v lo hi =
        let ordered = r.ordered in
        let m = max (s.low (k + 1)) (v - f) in
        let from = r.attained (v - m) (omega arith) (omega arith) in
        let x = from.0 in
        let is = from.2 in
        let all : reached (put x (k + 1) m) (k + 1) ≡ v = omega (arith, reached_on x k m) in
        (put x (k + 1) m, keeps_more n s x k m from.1 (omega arith) (omega arith) (omega arith) (omega arith), all)

-- nothing is left at stop k + 1
pub reach_stuck : {n : ℕ} {s : Settings} {k e f : ℕ} → Reach n s k e f → furthest n s k f < soonest n s k e → Stuck n s (k + 1)
reach_stuck r empty x keeps = let next = reach_next r x keeps in omega arith

-- nothing is stuck at a stop that can be reached
pub reach_open : {n : ℕ} {s : Settings} {k e f : ℕ} → Reach n s k e f → Stuck n s k → ⊥
reach_open {e} r stuck = let some = r.attained e (omega arith) r.ordered in stuck some.0 some.1

pub reach_timing : {n : ℕ} {s : Settings} {e f : ℕ} → Reach n s n e f → (x : ℕ → ℕ) × Timing n s x
reach_timing {e} r = let some = r.attained e (omega arith) r.ordered in (some.0, some.1)

-- ---- what every timing keeps

-- where every stop k can be reached from e k to f k, every timing reaches it there
pub reach_between : (n : ℕ) (s : Settings) (e f : ℕ → ℕ) → ((k : ℕ) → k ≤ n → Reach n s k (e k) (f k)) → Between n s e f
reach_between n s e f reach y keeps k h = (reach k h).inside y (keeps_less n s y k n h keeps)

-- what stop k + 1 leaves for stop k
pub between_backwards :
    (n : ℕ) (s : Settings) (e f : ℕ → ℕ) (k : ℕ) → Between n s e f → k + 1 ≤ n →
    Between n s (put e k (max (e k) (e (k + 1) - s.high (k + 1)))) (put f k (min (f k) (f (k + 1) - s.low (k + 1))))
between_backwards n s e f k between h y keeps j within =
    elim (ℕ_discrete j k) [
      | yes is ↦ rw (is, put_same e k _, put_same f k _) here
      | no ne ↦ rw (put_other e k _ ne, put_other f k _ ne) (between y keeps j within)
    ]
  where
    here : (max (e k) (e (k + 1) - s.high (k + 1)) ≤ reached y k) × (reached y k ≤ min (f k) (f (k + 1) - s.low (k + 1)))
    here =
        let own = between y keeps k (omega arith) in
        let next = between y keeps (k + 1) h in
        let bound = keeps.bounds (k + 1) (omega arith) h in
        let all = reached_more y k in
        omega arith

-- what the two stops beside leg k + 1 leave for it
pub between_clip :
    (n : ℕ) (s : Settings) (e f : ℕ → ℕ) (k : ℕ) → Between n s e f → k + 1 ≤ n → (y : ℕ → ℕ) → Timing n s y →
    (e (k + 1) - f k ≤ y (k + 1)) × (y (k + 1) ≤ f (k + 1) - e k)
between_clip n s e f k between h y keeps =
    let before = between y keeps k (omega arith) in
    let after = between y keeps (k + 1) h in
    let all = reached_more y k in
    omega arith
