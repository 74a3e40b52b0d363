-- The spans of the stops, one stop after the other. Assumes nothing.
use Rattle.std.proofs.Common.{◌≡◌, ℕ, ◌+◌, ◌-◌, ◌<◌, ◌≤◌, min, max, eqb, zero, suc, List, ◌∷◌, ◌++◌, length, set, add-one, sym, ap, ◌∙◌, subst₂, arith}
use Rattle.std.proofs.lemmas.Bool.{cond_both, eqb-false}
use Rattle.books.specs.declared.Ends.{Ends}
use Rattle.optimum.specs.Rotation.{put, Settings, Stuck, Timing, earliest, latest}
use Rattle.solver.specs.Plans.{range, los, his, First, Small, Clipped}
use Rattle.optimum.specs.Method.{Reach, Between}
use Rattle.optimum.proofs.Reach.{reach_start, reach_more, reach_stuck, reach_open, between_backwards, between_clip}
use Rattle.solver.proofs.Places.{Legwise, legwise_placed, los_set, his_set}

-- what stands in an array of ranges where none is
abbrev pub no_span : Ends
no_span = record { lo = 0; hi = 0 }

module _ (n : ℕ) (s : Settings) where
  pub latest_small : Small n s → (k : ℕ) → 1 ≤ k → k ≤ n → latest n s k ≤ 4095
  unfolding latest
  latest_small small k low high =
      cond_both (eqb k n) s.total (s.shuts k) (λ v. v ≤ 4095)
      (λ _. small.day)
      (λ other. small.windows k low (let ne = eqb-false k n other in omega arith))

  -- the span of stop i
  abbrev pub Spanned : ℕ → Ends → Type 0
  Spanned i e = Reach n s i e.lo e.hi

  -- the spans of the start and of the stops behind it, at their places in an array
  pub spans_placed : (rs rest : List Ends) → length rs ≡ n → Legwise Spanned no_span rs n → (k : ℕ) → k ≤ n → Spanned k (range (no_span ∷ (rs ++ rest)) k)
  spans_placed rs rest long each zero high = reach_start n s
  spans_placed rs rest long each (suc k) high = legwise_placed Spanned no_span no_span rs rest n long each (suc k) (omega arith) high

  -- the start and the first k stops can be reached
  spans_open : (rs : List Ends) (k : ℕ) → Legwise Spanned no_span rs k → (j : ℕ) → j ≤ k → Stuck n s j → ⊥
  spans_open rs k each zero h = reach_open (reach_start n s)
  spans_open rs k each (suc j) h = let less : j < k = omega arith in reach_open (rw add-one at (each j less))

  -- one stop more, its span e as computed of the span d before it
  module _ (k : ℕ) (d e : Ends) (lo : e.lo ≡ max (earliest n s (k + 1)) (d.lo + s.low (k + 1))) (hi : e.hi ≡ min (latest n s (k + 1)) (d.hi + s.high (k + 1))) (before : Spanned k d) where
    pub span_more : s.low (k + 1) ≤ s.high (k + 1) → e.lo ≤ e.hi → Spanned (k + 1) e
    span_more order o = subst₂ (Reach n s (k + 1)) (sym lo) (sym hi) (reach_more before order (rw (← lo, ← hi) o))

    pub span_stuck : (rs : List Ends) → k + 1 ≤ n → e.hi < e.lo → Legwise Spanned no_span rs k → First n s (k + 1)
    span_stuck rs within o each =
        record {
          leg = (omega arith, within);
          stuck = reach_stuck before (rw (← lo, ← hi) o);
          before = λ j h. spans_open rs k each j (omega arith);
        }

  -- one stop further back
  pub spans_back : (es : List Ends) (k : ℕ) (e : Ends) → k < length es → k + 1 ≤ n → e.lo ≡ max (los es k) (los es (k + 1) - s.high (k + 1)) → e.hi ≡ min (his es k) (his es (k + 1) - s.low (k + 1)) → Between n s (los es) (his es) → Between n s (los (set es k e)) (his (set es k e))
  spans_back es k e inside within lo hi before =
      subst₂ (Between n s)
      (sym (los_set es k e inside ∙ ap (put (los es) k) lo))
      (sym (his_set es k e inside ∙ ap (put (his es) k) hi))
      (between_backwards n s (los es) (his es) k before within)

  -- the limits of leg i lie in its bounds and leave out no timing
  abbrev pub Clips : ℕ → Ends → Type 0
  Clips i e = (s.low i ≤ e.lo) × (e.hi ≤ s.high i) × ((y : ℕ → ℕ) → Timing n s y → (e.lo ≤ y i) × (y i ≤ e.hi))

  -- one leg more is clipped
  pub clips : (es : List Ends) (k : ℕ) (e : Ends) → k + 1 ≤ n → Between n s (los es) (his es) → e.lo ≡ max (s.low (k + 1)) (los es (k + 1) - his es k) → e.hi ≡ min (s.high (k + 1)) (his es (k + 1) - los es k) → Clips (k + 1) e
  clips es k e within spans lo hi = (
    omega arith,
    omega arith,
    λ y timing.
        let clip = between_clip n s (los es) (his es) k spans within y timing in
        let kept = timing.bounds (k + 1) (omega arith) within in
        (omega arith, omega arith),
  )

  -- the limits of the legs 1 to n at their places in an array
  pub clipped_all : (none : Ends) (rs rest : List Ends) → length rs ≡ n → Legwise Clips no_span rs n → Clipped n n s (los (none ∷ (rs ++ rest))) (his (none ∷ (rs ++ rest)))
  clipped_all none rs rest long each =
      let placed = legwise_placed Clips no_span none rs rest n long each in
      record {
        bounds = λ i low high. let own = placed i low high in (own.0, own.1);
        timings = λ y timing i low high. (placed i low high).2 y timing;
      }
