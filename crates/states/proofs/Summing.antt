-- The sum over the legs, one leg after the other. Assumes nothing.
use Rattle.std.proofs.Common.{◌≡◌, ℕ, ◌+◌, ◌-◌, ◌<◌, ◌≤◌, List, length, get_or, take, drop, Some, None, Option, sym, ap, ◌∙◌, subst, ap₂, arith, MatchOption}
use Rattle.std.proofs.lemmas.List.{get_or-take, get_or-drop}
use Rattle.amounts.specs.Rows.{Row, plus, InRange}
use Rattle.books.specs.Meaning.{Meaning, Priced, Ranged, Shaped}
use Rattle.optimum.specs.Rotation.{spent, cost_of_timing}
use Rattle.optimum.proofs.Sums.{spent_more, spent_range, spent_same}
use Rattle.solver.proofs.Leading.{each_more}
use Rattle.solver.specs.Plans.{at}
use Rattle.states.specs.Costs.{flown, AllPriced, Affordable}

module _ (b : Meaning) (ms : List ℕ) (k : ℕ) where
  flown_next : get_or ms k 0 ≡ flown ms (k + 1)
  flown_next = let e : k ≡ k + 1 - 1 = omega arith in ap (λ j. get_or ms j 0) e

  -- one leg more in the sum
  pub spent_next : (all cost : Row) → all ≡ spent b (flown ms) k → cost ≡ b.cost (k + 1) (get_or ms k 0) → plus all cost ≡ spent b (flown ms) (k + 1)
  spent_next all cost before here = ap₂ plus before (here ∙ ap (b.cost (k + 1)) flown_next) ∙ sym (spent_more b (flown ms) k)

  pub priced_next : ((i : ℕ) → 1 ≤ i → i ≤ k → Priced b i (flown ms i)) → Priced b (k + 1) (get_or ms k 0) → (i : ℕ) → 1 ≤ i → i ≤ k + 1 → Priced b i (flown ms i)
  priced_next before here = each_more (λ i. Priced b i (flown ms i)) k before (subst (Priced b (k + 1)) flown_next here)

  -- the sum lies in the range of amounts
  pub spent_fits : {n : ℕ} → Ranged n b → Shaped b → k + 1 ≤ length ms → AllPriced b ms → InRange n (spent b (flown ms) (k + 1))
  spent_fits range shape within all =
      spent_range b range shape.few (flown ms) (k + 1) (all (k + 1) (omega arith) within).0.1
      (λ i low high. let p = all i low (omega arith) in (p.1, p.2))

-- the cost of a list that holds the minutes of every leg is the cost of the timing
module _ {A : Type 0} (row : A → Row) (b : Meaning) (ms qs : List ℕ) (long : length qs ≡ b.legs) (same : (k : ℕ) → k < b.legs → get_or qs k 0 ≡ at ms (k + 1)) where
  flown_same : (i : ℕ) → 1 ≤ i → i ≤ b.legs → flown qs i ≡ at ms i
  flown_same i low high =
      let within : i - 1 < b.legs = omega arith in
      let place : i - 1 + 1 ≡ i = omega arith in
      same (i - 1) within ∙ ap (at ms) place

  pub timing_costs : (r : Option A) → MatchOption r (AllPriced b qs → ⊥) (λ a. AllPriced b qs × (row a ≡ spent b (flown qs) (length qs))) → MatchOption r (Affordable b (at ms) → ⊥) (λ a. Affordable b (at ms) × (row a ≡ cost_of_timing b (at ms)))
  timing_costs None absent = λ all. absent (λ i low high. subst (Priced b i) (sym (flown_same i low (omega arith))) (all i (low, omega arith)))
  timing_costs (Some a) found = (
    λ i leg. subst (Priced b i) (flown_same i leg.0 leg.1) (found.0 i leg.0 (let end = leg.1 in omega arith)),
    found.1 ∙ ap (spent b (flown qs)) long ∙ spent_same b (flown qs) (at ms) b.legs flown_same,
  )

-- the slice of an array from place 1 to n
pub slice_at : (ms : List ℕ) (n k : ℕ) → k < n → get_or (take (n + 1 - 1) (drop 1 ms)) k 0 ≡ at ms (k + 1)
slice_at ms n k low =
    let within : k < n + 1 - 1 = omega arith in
    let place : 1 + k ≡ k + 1 = omega arith in
    get_or-take (n + 1 - 1) (drop 1 ms) k 0 within ∙ get_or-drop 1 ms k 0 ∙ ap (at ms) place
