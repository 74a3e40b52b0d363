-- Sums over the legs: what changes where one leg is given other minutes.
use Rattle.std.proofs.Common.{◌≡◌, ℕ, zero, suc, ◌+◌, ◌-◌, ◌*◌, ◌^◌, ◌<◌, ◌≤◌, ◌≢◌, sym, refl, ap, ◌∙◌, add-one, arith}
use native.Mathlib.Decide.{ℕ_discrete, dec_lt, dec_le}
use Rattle.amounts.specs.Rows.{none, plus, minus, Within, Ends, InRange}
use Rattle.books.specs.Meaning.{Meaning, Priced, Ranged, step}
use Rattle.std.proofs.lemmas.Int.{ints}
use Rattle.optimum.specs.Rotation.{put, reached, spent}
use Rattle.optimum.proofs.RowLaws.{plus_swap, plus_chain}

pub put_same : (f : ℕ → ℕ) (i v : ℕ) → put f i v i ≡ v
unfolding put
put_same f i v = grind arith

pub put_other : (f : ℕ → ℕ) (i v : ℕ) {k : ℕ} → k ≢ i → put f i v k ≡ f k
unfolding put
put_other f i v ne = grind arith

-- ---- when a stop is reached

pub reached_more : (x : ℕ → ℕ) (k : ℕ) → reached x (k + 1) ≡ reached x k + x (k + 1)
unfolding reached
reached_more x k = rw add-one refl

-- leg i is not among the first k
pub reached_past : (x : ℕ → ℕ) (i v k : ℕ) → k < i → reached (put x i v) k ≡ reached x k
unfolding reached
reached_past x i v zero h = refl
reached_past x i v (suc k) h =
    let before = reached_past x i v k (omega arith) in
    let at-k : put x i v (suc k) ≡ x (suc k) = put_other x i v (omega arith) in
    omega arith

-- leg i is among the first k
pub reached-put : (x : ℕ → ℕ) (i v k : ℕ) → 1 ≤ i → i ≤ k → reached (put x i v) k + x i ≡ reached x k + v
unfolding reached
reached-put x i v zero p h = absurd (omega arith)
reached-put x i v (suc k) p h =
    elim (ℕ_discrete i (suc k)) [
      | yes e ↦ last e
      | no ne ↦ before ne (reached-put x i v k p (omega arith))
    ]
  where
    last : i ≡ suc k → reached (put x i v) k + put x i v (suc k) + x i ≡ reached x k + x (suc k) + v
    last e =
        let same : put x i v (suc k) ≡ v = rw (← e) (put_same x i v) in
        let own : x i ≡ x (suc k) = ap x e in
        omega (arith, reached_past x i v k (omega arith))

    before :
        i ≢ suc k → reached (put x i v) k + x i ≡ reached x k + v →
        reached (put x i v) k + put x i v (suc k) + x i ≡ reached x k + x (suc k) + v
    before ne ih =
        let other : put x i v (suc k) ≡ x (suc k) = put_other x i v (λ e. ne (sym e)) in
        omega arith

-- one minute more, or one less, on a leg among the first k
pub reached_put_up : (x : ℕ → ℕ) (i k : ℕ) → 1 ≤ i → i ≤ k → reached (put x i (x i + 1)) k ≡ reached x k + 1
reached_put_up x i k p h = omega (arith, reached-put x i (x i + 1) k p h)

pub reached_put_down : (x : ℕ → ℕ) (i k : ℕ) → 1 ≤ i → i ≤ k → 0 < x i → reached (put x i (x i - 1)) k + 1 ≡ reached x k
reached_put_down x i k p h some = omega (arith, reached-put x i (x i - 1) k p h)

-- no fewer minutes on any of the first k legs
-- stops are reached in turn
pub reached_onward : (x : ℕ → ℕ) (k n : ℕ) → k ≤ n → reached x k ≤ reached x n
unfolding reached
reached_onward x k zero h = let e : k ≡ 0 = omega arith in rw e (omega arith)
reached_onward x k (suc n) h =
    elim (dec_le k n) [
      | yes before ↦ omega (arith, reached_onward x k n before)
      | no after ↦ let e : k ≡ suc n = omega arith in rw e (omega arith)
    ]

pub reached_mono : (x y : ℕ → ℕ) (k : ℕ) → ((i : ℕ) → 1 ≤ i → i ≤ k → x i ≤ y i) → reached x k ≤ reached y k
unfolding reached
reached_mono x y zero le = omega arith
reached_mono x y (suc k) le = omega (arith, reached_mono x y k (λ i p h. le i p (omega arith)), le (suc k) (omega arith) (omega arith))

-- where y reaches stop k later than x, one of its legs is longer
pub reached_gap : (x y : ℕ → ℕ) (k : ℕ) → reached x k < reached y k → (j : ℕ) × (1 ≤ j) × (j ≤ k) × (x j < y j)
unfolding reached
reached_gap x y zero h = absurd (omega arith)
reached_gap x y (suc k) h =
    elim (dec_lt (x (suc k)) (y (suc k))) [
      | yes lt ↦ (suc k, omega arith, omega arith, lt)
      | no ge ↦ before (reached_gap x y k (omega arith))
    ]
  where
    before : (j : ℕ) × (1 ≤ j) × (j ≤ k) × (x j < y j) → (j : ℕ) × (1 ≤ j) × (j ≤ suc k) × (x j < y j)
    before g = (g.0, g.1, omega arith, g.3)

-- the same legs reach the same
pub reached_same : (x y : ℕ → ℕ) (k : ℕ) → ((i : ℕ) → 1 ≤ i → i ≤ k → x i ≡ y i) → reached x k ≡ reached y k
reached_same x y k same =
    let up = reached_mono x y k (λ i p h. omega (arith, same i p h)) in
    let down = reached_mono y x k (λ i p h. omega (arith, same i p h)) in
    omega arith

-- no leg longer, and together no less: each leg the same
pub reached_tight :
    (x y : ℕ → ℕ) (k : ℕ) → ((i : ℕ) → 1 ≤ i → i ≤ k → x i ≤ y i) → reached y k ≤ reached x k → (i : ℕ) → 1 ≤ i → i ≤ k →
    x i ≡ y i
unfolding reached
reached_tight x y zero le all i p h = absurd (omega arith)
reached_tight x y (suc k) le all i p h =
    let here = le (suc k) (omega arith) (omega arith) in
    let below : (i : ℕ) → 1 ≤ i → i ≤ k → x i ≤ y i = λ i p h. le i p (omega arith) in
    let rest = reached_mono x y k below in
    elim (ℕ_discrete i (suc k)) [ yes e ↦ rw e (omega arith) | no ne ↦ reached_tight x y k below (omega arith) i p (omega arith) ]

-- ---- what the first k legs cost

pub spent_more : (b : Meaning) (x : ℕ → ℕ) (k : ℕ) → spent b x (k + 1) ≡ plus (spent b x k) (b.cost (k + 1) (x (k + 1)))
unfolding spent
spent_more b x k = rw add-one refl

pub spent_same : (b : Meaning) (x y : ℕ → ℕ) (k : ℕ) → ((i : ℕ) → 1 ≤ i → i ≤ k → x i ≡ y i) → spent b x k ≡ spent b y k
unfolding spent
spent_same b x y zero same = refl
spent_same b x y (suc k) same = rw (spent_same b x y k (λ i p h. same i p (omega arith)), same (suc k) (omega arith) (omega arith)) refl

pub spent_past : (b : Meaning) (x : ℕ → ℕ) (i v k : ℕ) → k < i → spent b (put x i v) k ≡ spent b x k
spent_past b x i v k h = spent_same b (put x i v) x k (λ j p le. put_other x i v (omega arith))

-- leg i is among the first k
pub spent-put :
    (b : Meaning) (x : ℕ → ℕ) (i v k : ℕ) → 1 ≤ i → i ≤ k →
    plus (spent b (put x i v) k) (b.cost i (x i)) ≡ plus (spent b x k) (b.cost i v)
unfolding spent
spent-put b x i v zero p h = absurd (omega arith)
spent-put b x i v (suc k) p h =
    elim (ℕ_discrete i (suc k)) [
      | yes e ↦ last e
      | no ne ↦ before ne (spent-put b x i v k p (omega arith))
    ]
  where
    last :
        i ≡ suc k →
        plus (plus (spent b (put x i v) k) (b.cost (suc k) (put x i v (suc k)))) (b.cost i (x i)) ≡ plus (plus (spent b x k) (b.cost (suc k) (x (suc k)))) (b.cost i v)
    last e = rw (spent_past b x i v k (omega arith), ← e, put_same x i v) (plus_swap _ _ _)

    before :
        i ≢ suc k → plus (spent b (put x i v) k) (b.cost i (x i)) ≡ plus (spent b x k) (b.cost i v) →
        plus (plus (spent b (put x i v) k) (b.cost (suc k) (put x i v (suc k)))) (b.cost i (x i)) ≡ plus (plus (spent b x k) (b.cost (suc k) (x (suc k)))) (b.cost i v)
    before ne ih = rw (put_other x i v (λ e. ne (sym e))) (plus_swap _ _ _ ∙ ap (λ r. plus r (b.cost (suc k) (x (suc k)))) ih ∙ plus_swap _ _ _)

-- ---- one minute of leg j given to leg i

unfoldable pub moved : (ℕ → ℕ) → ℕ → ℕ → ℕ → ℕ
moved y j i = put (put y j (y j - 1)) i (y i + 1)

pub moved_to : (y : ℕ → ℕ) (j i : ℕ) → moved y j i i ≡ y i + 1
unfolding moved
moved_to y j i = put_same _ i _

pub moved_from : (y : ℕ → ℕ) (j i : ℕ) → j ≢ i → moved y j i j ≡ y j - 1
unfolding moved
moved_from y j i ne = put_other _ i _ ne ∙ put_same y j _

pub moved_other : (y : ℕ → ℕ) (j i : ℕ) {k : ℕ} → k ≢ j → k ≢ i → moved y j i k ≡ y k
unfolding moved
moved_other y j i far other = put_other _ i _ other ∙ put_other y j _ far

-- a stop behind both legs is reached as before
pub reached-moved :
    (y : ℕ → ℕ) (j i k : ℕ) → 1 ≤ j → j ≤ k → 1 ≤ i → i ≤ k → j ≢ i → 0 < y j → reached (moved y j i) k ≡ reached y k
unfolding moved
reached-moved y j i k p h p' h' ne some =
    let own : put y j (y j - 1) i ≡ y i = put_other y j _ (λ e. ne (sym e)) in
    omega (arith, reached-put (put y j (y j - 1)) i (y i + 1) k p' h', reached-put y j (y j - 1) k p h)

-- a stop before both too
pub reached_unmoved : (y : ℕ → ℕ) (j i k : ℕ) → k < j → k < i → reached (moved y j i) k ≡ reached y k
unfolding moved
reached_unmoved y j i k far later = reached_past _ i _ k later ∙ reached_past y j _ k far

-- a stop between them a minute sooner or later
pub reached_sooner : (y : ℕ → ℕ) (j i k : ℕ) → 1 ≤ j → j ≤ k → k < i → 0 < y j → reached (moved y j i) k + 1 ≡ reached y k
unfolding moved
reached_sooner y j i k p h later some = rw (reached_past (put y j (y j - 1)) i (y i + 1) k later) (reached_put_down y j k p h some)

pub reached-later : (y : ℕ → ℕ) (j i k : ℕ) → 1 ≤ i → i ≤ k → k < j → reached (moved y j i) k ≡ reached y k + 1
unfolding moved
reached-later y j i k p h later =
    let own : put y j (y j - 1) i ≡ y i = put_other y j _ (omega arith) in
    omega (arith, reached-put (put y j (y j - 1)) i (y i + 1) k p h, reached_past y j (y j - 1) k later)

-- and the cost changes by two steps
pub spent-moved :
    (b : Meaning) (y : ℕ → ℕ) (j i k : ℕ) → 1 ≤ j → j ≤ k → 1 ≤ i → i ≤ k → j ≢ i → 0 < y j →
    plus (spent b (moved y j i) k) (step b j (y j - 1)) ≡ plus (spent b y k) (step b i (y i))
unfolding moved step
spent-moved b y j i k p h p' h' ne some =
    let own : put y j (y j - 1) i ≡ y i = put_other y j _ (λ e. ne (sym e)) in
    let back : y j - 1 + 1 ≡ y j = omega arith in
    let given = spent-put b (put y j (y j - 1)) i (y i + 1) k p' h' in
    rw back (plus_chain _ _ _ _ _ _ _ (rw own at given) (spent-put b y j (y j - 1) k p h))

-- ---- ranges

-- the minutes x of the first k legs lie in the book's ends
abbrev pub InEnds : Meaning → (ℕ → ℕ) → ℕ → Type 0
InEnds b x k = (i : ℕ) → 1 ≤ i → i ≤ k → (b.lo i ≤ x i) × (x i ≤ b.hi i)

priced : (b : Meaning) (x : ℕ → ℕ) (k i : ℕ) → k ≤ b.legs → InEnds b x k → 1 ≤ i → i ≤ k → Priced b i (x i)
priced b x k i few ends p h = let e = ends i p h in ((p, omega arith), e.0, e.1)

within-spent :
    {n : ℕ} (b : Meaning) → Ranged n b → (x : ℕ → ℕ) (k : ℕ) → k ≤ b.legs → InEnds b x k → Within (k * 2 ^ 40) n (spent b x k)
unfolding spent none plus
within-spent b range x zero few ends q h = omega (arith, ints)
within-spent b range x (suc k) few ends q h =
    let before = within-spent b range x k (omega arith) (λ i p le. ends i p (omega arith)) q h in
    let here = (range (suc k) (x (suc k)) (priced b x (suc k) (suc k) few ends (omega arith) (omega arith))).0 q h in
    omega (arith, ints)

-- the sum over at most 64 legs lies in the range of amounts
pub spent_range :
    {n : ℕ} (b : Meaning) → Ranged n b → b.legs ≤ 64 → (x : ℕ → ℕ) (k : ℕ) → k ≤ b.legs → InEnds b x k →
    InRange n (spent b x k)
spent_range b range short x k few ends q h = let sum = within-spent b range x k few ends q h in omega (arith, ints)

pub spent_ends : {n : ℕ} (b : Meaning) → Ranged n b → (x : ℕ → ℕ) (k : ℕ) → k ≤ b.legs → InEnds b x k → Ends n (spent b x k)
unfolding spent none plus
spent_ends b range x zero few ends q h = refl
spent_ends b range x (suc k) few ends q h =
    let before = spent_ends b range x k (omega arith) (λ i p le. ends i p (omega arith)) q h in
    let here = (range (suc k) (x (suc k)) (priced b x (suc k) (suc k) few ends (omega arith) (omega arith))).1 q h in
    omega (arith, ints)

-- and so does a step
pub step_range : {n : ℕ} (b : Meaning) → Ranged n b → (i m : ℕ) → Priced b i m → Priced b i (m + 1) → InRange n (step b i m)
unfolding step minus
step_range b range i m p p' q h =
    let before = (range i m p).0 q h in
    let after = (range i (m + 1) p').0 q h in
    omega (arith, ints)
