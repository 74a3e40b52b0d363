-- Tests that compute, and what they show where they pass: that minutes are a timing, and that prices keep the rule.
use Rattle.std.proofs.Common.{◌≡◌, ℕ, zero, suc, ◌+◌, ◌-◌, ◌<◌, ◌≤◌, Bool, true, ◌&&◌, ◌||◌, leb, pos, ◌-ℤ◌, subst, inl, inr, arith}
use Rattle.std.proofs.lemmas.Bool.{and_parts, or_cases, leb-true, cases_eq}
use Rattle.amounts.specs.Rows.{Row, plus, times}
use Rattle.books.specs.Meaning.{Meaning, IsLeg}
use Rattle.optimum.specs.Prices.{Named, PriceRule, worth}
use Rattle.optimum.specs.Rotation.{Settings, Keeps, reached, earliest, latest}
use Rattle.optimum.specs.declared.Price.{Price}

-- the test passes at d numbers from a on
unfoldable pub every : (ℕ → Bool) → ℕ → ℕ → Bool
every test a zero = true
every test a (suc d) = test a && every test (suc a) d

pub every-at : (test : ℕ → Bool) (a d m : ℕ) → every test a d ≡ true → a ≤ m → m < a + d → test m ≡ true
unfolding every
every-at test a zero m passed from below = absurd (omega arith)
every-at test a (suc d) m passed from below =
    let both = and_parts (test a) (every test (suc a) d) passed in
    elim (cases_eq a m) [ inl same ↦ subst (λ k. test k ≡ true) same both.0 | inr other ↦ every-at test (suc a) d m both.1 (omega arith) (omega arith) ]

-- a ≤ v ≤ b
abbrev pub within : ℕ → ℕ → ℕ → Bool
within a v b = leb a v && leb v b

within_is : (a v b : ℕ) → within a v b ≡ true → (a ≤ v) × (v ≤ b)
within_is a v b passed = let both = and_parts (leb a v) (leb v b) passed in (leb-true a v both.0, leb-true v b both.1)

module _ (n : ℕ) (s : Settings) (x : ℕ → ℕ) (k : ℕ) where
  abbrev pub keeps_test : Bool
  keeps_test = every (λ i. within (s.low i) (x i) (s.high i)) 1 k && every (λ j. within (earliest n s j) (reached x j) (latest n s j)) 1 k

  pub keeps_tested : keeps_test ≡ true → Keeps n s x k
  keeps_tested passed =
      let both = and_parts (every (λ i. within (s.low i) (x i) (s.high i)) 1 k) (every (λ j. within (earliest n s j) (reached x j) (latest n s j)) 1 k) passed in
      record {
        bounds = λ i from to. within_is _ _ _ (every-at _ 1 k i both.0 from (omega arith));
        windows = λ j from to. within_is _ _ _ (every-at _ 1 k j both.1 from (omega arith));
      }

module _ (test : Row → Row → Bool) (b : Meaning) (s : Settings) (x : ℕ → ℕ) (p : ℕ → Price) where
  -- the price of leg i names a step
  abbrev pub named_test : ℕ → Bool
  named_test i = within 1 (p i).leg b.legs && (leb (b.lo (p i).leg) (p i).minute && leb ((p i).minute + 1) (b.hi (p i).leg))

  -- leg i gains nothing by m minutes
  abbrev pub leg_test : ℕ → ℕ → Bool
  leg_test i m = test (plus (b.cost i (x i)) (times (pos m -ℤ pos (x i)) (worth b (p i)))) (b.cost i m)

  abbrev pub rise_test : ℕ → Bool
  rise_test k = leb (reached x k) (earliest b.legs s k) || test (worth b (p k)) (worth b (p (k + 1)))

  abbrev pub fall_test : ℕ → Bool
  fall_test k = leb (latest b.legs s k) (reached x k) || test (worth b (p (k + 1))) (worth b (p k))

  abbrev pub rule_test : Bool
  rule_test =
      every (λ i. named_test i && every (leg_test i) (s.low i) (s.high i + 1 - s.low i)) 1 b.legs
      && every (λ k. rise_test k && fall_test k) 1 (b.legs - 1)

  pub rule_tested : {le : Row → Row → Type 0} → ((x y : Row) → test x y ≡ true → le x y) → rule_test ≡ true → PriceRule b le s x p
  rule_tested {le} sound passed = record { named = named; legs = legs; rises = rises; falls = falls }
    where
      both : (every (λ i. named_test i && every (leg_test i) (s.low i) (s.high i + 1 - s.low i)) 1 b.legs ≡ true) × (every (λ k. rise_test k && fall_test k) 1 (b.legs - 1) ≡ true)
      both = and_parts _ _ passed

      leg : (i : ℕ) → IsLeg b i → (named_test i ≡ true) × (every (leg_test i) (s.low i) (s.high i + 1 - s.low i) ≡ true)
      leg i is = and_parts _ _ (every-at _ 1 b.legs i both.0 is.0 (omega arith))

      stop : (k : ℕ) → 1 ≤ k → k < b.legs → (rise_test k ≡ true) × (fall_test k ≡ true)
      stop k from to = and_parts _ _ (every-at _ 1 (b.legs - 1) k both.1 from (omega arith))

      named : (i : ℕ) → IsLeg b i → Named b (p i)
      named i is =
          let parts = and_parts _ _ (leg i is).0 in
          let ends = and_parts _ _ parts.1 in
          inr (within_is _ _ _ parts.0, leb-true _ _ ends.0, leb-true _ _ ends.1)

      legs : (i m : ℕ) → IsLeg b i → s.low i ≤ m → m ≤ s.high i → le (plus (b.cost i (x i)) (times (pos m -ℤ pos (x i)) (worth b (p i)))) (b.cost i m)
      legs i m is from to = sound _ _ (every-at (leg_test i) (s.low i) _ m (leg i is).1 from (omega arith))

      rises : (k : ℕ) → 1 ≤ k → k < b.legs → earliest b.legs s k < reached x k → le (worth b (p k)) (worth b (p (k + 1)))
      rises k from to late = elim (or_cases (leb (reached x k) (earliest b.legs s k)) _ (stop k from to).0) [ inl early ↦ absurd (omega (arith, leb-true)) | inr up ↦ sound _ _ up ]

      falls : (k : ℕ) → 1 ≤ k → k < b.legs → reached x k < latest b.legs s k → le (worth b (p (k + 1))) (worth b (p k))
      falls k from to early = elim (or_cases (leb (latest b.legs s k) (reached x k)) _ (stop k from to).1) [ inl late ↦ absurd (omega (arith, leb-true)) | inr down ↦ sound _ _ down ]
