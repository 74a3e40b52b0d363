-- A test that goes through every timing of a rotation, and what it shows where it passes.
use Rattle.std.proofs.Common.{◌≡◌, ℕ, zero, suc, ◌+◌, ◌-◌, ◌≤◌, min, max, Bool, true, false, ◌||◌, eqb, List, [], ◌∷◌, sym, ◌∙◌, inl, inr, arith}
use Rattle.std.proofs.lemmas.Bool.{or_cases, eqb-true, cases_eq}
use Rattle.optimum.specs.Rotation.{Settings, Timing, put, reached, earliest, latest}
use Rattle.optimum.proofs.Sums.{put_same, put_other, reached_same}
use Rattle.states.specs.Costs.{flown}
use Rattle.samples.specs.Samples.{OneOf}
use Rattle.samples.proofs.Trials.{every, every-at}

-- the minutes y and z of the legs 1 to k are the same
abbrev pub Alike : (ℕ → ℕ) → (ℕ → ℕ) → ℕ → Type 0
Alike z y k = (i : ℕ) → 1 ≤ i → i ≤ k → z i ≡ y i

module _ (n : ℕ) (s : Settings) where
  -- the fewest and the most minutes of the leg after k that keep its bounds and its window, where leg k ends at `now`
  abbrev fewest : ℕ → ℕ → ℕ
  fewest k now = max (s.low (suc k)) (earliest n s (suc k) - now)

  abbrev most : ℕ → ℕ → ℕ
  most k now = min (s.high (suc k)) (latest n s (suc k) - now)

  -- the minutes z of the legs 1 to k pass the test, in whatever way d legs more are flown
  unfoldable pub ways : ((ℕ → ℕ) → Bool) → (ℕ → ℕ) → ℕ → ℕ → Bool
  ways test z k zero = test z
  ways test z k (suc d) =
      every (λ m. ways test (put z (suc k) m) (suc k) d) (fewest k (reached z k)) (most k (reached z k) + 1 - fewest k (reached z k))

  -- so does every timing that begins as z does
  ways-at :
      (test : (ℕ → ℕ) → Bool) (y z : ℕ → ℕ) (k d : ℕ) → k + d ≡ n → Timing n s y → Alike z y k → ways test z k d ≡ true →
      (w : ℕ → ℕ) × Alike w y n × (test w ≡ true)
  unfolding ways reached
  ways-at test y z k zero all keeps same passed = (z, (λ i from to. same i from (omega arith)), passed)
  ways-at test y z k (suc d) all keeps same passed = ways-at test y (put z (suc k) (y (suc k))) (suc k) d (omega arith) keeps longer here
    where
      longer : Alike (put z (suc k) (y (suc k))) y (suc k)
      longer i from to =
          elim (cases_eq i (suc k)) [
            | inl last ↦ rw last (put_same z (suc k) (y (suc k)))
            | inr other ↦ put_other z (suc k) (y (suc k)) other ∙ same i from (omega arith)
          ]

      here : ways test (put z (suc k) (y (suc k))) (suc k) d ≡ true
      here =
          let bounds = keeps.bounds (suc k) (omega arith) (omega arith) in
          let window = keeps.windows (suc k) (omega arith) (omega arith) in
          let now = reached_same z y k same in
          every-at (λ m. ways test (put z (suc k) m) (suc k) d) _ _ (y (suc k)) passed (omega arith) (omega arith)

  -- every timing of the n legs passes
  abbrev pub all_test : ((ℕ → ℕ) → Bool) → Bool
  all_test test = ways test (λ i. 0) 0 n

  pub all_tested :
      (test : (ℕ → ℕ) → Bool) (y : ℕ → ℕ) → all_test test ≡ true → Timing n s y → (w : ℕ → ℕ) × Alike w y n × (test w ≡ true)
  all_tested test y passed keeps = ways-at test y (λ i. 0) 0 n (omega arith) keeps (λ i from to. absurd (omega arith)) passed

module _ (n : ℕ) where
  -- the minutes z are those of one of the timings
  abbrev pub one_test : (ℕ → ℕ) → List (List ℕ) → Bool
  one_test z [] = false
  one_test z (minutes ∷ others) = every (λ i. eqb (z i) (flown minutes i)) 1 n || one_test z others

  pub one_tested : (z y : ℕ → ℕ) (timings : List (List ℕ)) → Alike z y n → one_test z timings ≡ true → OneOf n y timings
  one_tested z y [] same passed = absurd (grind arith)
  one_tested z y (minutes ∷ others) same passed =
      elim (or_cases _ (one_test z others) passed) [
        | inl these ↦ inl (λ i from to. sym (same i from to) ∙ eqb-true _ _ (every-at _ 1 n i these from (omega arith)))
        | inr later ↦ inr (one_tested z y others same later)
      ]
