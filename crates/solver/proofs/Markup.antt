-- Prices of a cheapest timing, leg by leg and over the stops. Assumes nothing.
use Rattle.std.proofs.Common.{◌≡◌, ℕ, ◌+◌, ◌-◌, ◌<◌, ◌≤◌, ◌≢◌, ◌⊎◌, List, length, set, sym, refl, ap, ◌∙◌, subst, subst₂, inl, inr, ⊎_elim, arith}
use Rattle.std.proofs.lemmas.Bool.{cases_eq}
use Rattle.std.proofs.lemmas.List.{get_or-set_same, get_or-set_other}
use Rattle.amounts.specs.Rows.{Row}
use Rattle.amounts.specs.Orders.{Order}
use Rattle.books.specs.Meaning.{Meaning, IsLeg, Convex, step}
use Rattle.optimum.specs.declared.Price.{Price}
use Rattle.optimum.specs.Prices.{worth}
use Rattle.optimum.specs.Rotation.{Settings, reached, earliest, latest, Cheapest}
use Rattle.amounts.specs.RowLaws.{le_refl}
use Rattle.optimum.specs.Method.{Fits, Safe}
use Rattle.optimum.proofs.Fair.{safe_low, safe_last, safe_right, safe_left, worth-step}
use Rattle.books.specs.declared.Ends.{Ends}
use Rattle.solver.specs.Steps.{Up, Before, edge_row, NoneOpen, Leads}
use Rattle.solver.specs.Pricing.{Floor, Fair, FairUp, Rises, Falls}
use Rattle.solver.specs.Plans.{los, his, price_at}

-- the price of leg j after a write at leg i
after_price : (P : Price → Type 0) (ps : List Price) (i : ℕ) (p : Price) (j : ℕ) → i < length ps → (j ≡ i → P p) → (j ≢ i → P (price_at ps j)) → P (price_at (set ps i p) j)
after_price P ps i p j within here there =
    ⊎_elim
    (λ same. subst P (subst (λ m. p ≡ price_at (set ps i p) m) (sym same) (sym (get_or-set_same ps i p _ within))) (here same))
    (λ other. subst P (sym (get_or-set_other ps i j p _ other)) (there other))
    (cases_eq j i)

-- r is the greater of two prices
abbrev pub Greater : Meaning → (Row → Row → Type 0) → Price → Price → Price → Type 0
Greater b le old new r = ((r ≡ old) × le (worth b new) (worth b old)) ⊎ ((r ≡ new) × le (worth b old) (worth b new))

module _ {places : ℕ} {le : Row → Row → Type 0} (order : Order places le) (b : Meaning) where
  -- the greater of two is at least each
  pub greater_old : (old new r : Price) → Greater b le old new r → le (worth b old) (worth b r)
  greater_old old new r = ⊎_elim (λ kept. subst (λ p. le (worth b old) (worth b p)) (sym kept.0) (le_refl order (worth b old))) (λ newer. subst (λ p. le (worth b old) (worth b p)) (sym newer.0) newer.1)

  pub greater_new : (old new r : Price) → Greater b le old new r → le (worth b new) (worth b r)
  greater_new old new r = ⊎_elim (λ kept. subst (λ p. le (worth b new) (worth b p)) (sym kept.0) kept.1) (λ newer. subst (λ p. le (worth b new) (worth b p)) (sym newer.0) (le_refl order (worth b new)))

module _ {places : ℕ} {le : Row → Row → Type 0} {b : Meaning} {s : Settings} {x : ℕ → ℕ} (order : Order places le) where
  -- the least next step of all
  pub floor_least : (es : List Ends) (i : ℕ) → los es ≡ x → his es ≡ s.high → Fits b s → Cheapest b le s x → Leads (Before Up le) (edge_row b Up es) es b.legs i → Floor b le s x (record { leg = i; minute = x i })
  floor_least es i low-is high-is fits cheapest leads =
      let l = ap (λ f. f i) low-is in
      let u = ap (λ f. f i) high-is in
      let p : Price = record { leg = i; minute = x i } in
      let leg : IsLeg b i = (leads.0, leads.1) in
      let bounds = cheapest.timing.bounds i leads.0 leads.1 in
      let ends = fits i leg in
      let open' = leads.2 in
      record {
        named = inr (leg, omega arith, omega arith);
        least = λ j leg' more.
            let lj = ap (λ f. f j) low-is in
            let uj = ap (λ f. f j) high-is in
            subst₂ le (ap (step b i) l ∙ sym (worth-step b p leads.0)) (ap (step b j) lj) (leads.3 j leg'.0 leg'.1 (omega arith));
      }

  -- where no leg can be longer
  pub floor_none : (es : List Ends) → los es ≡ x → his es ≡ s.high → NoneOpen es b.legs → Floor b le s x (record { leg = 0; minute = 0 })
  floor_none es low-is high-is none =
      record {
        named = inl (refl, refl);
        least = λ j leg more.
            let lj = ap (λ f. f j) low-is in
            let uj = ap (λ f. f j) high-is in
            absurd (none j leg.0 leg.1 (omega arith));
      }

  -- the greater of the floor and the last step
  pub fair_first : Convex le b → Fits b s → Cheapest b le s x → (i : ℕ) (base r : Price) → IsLeg b i → s.low i < x i → Floor b le s x base → Greater b le base (record { leg = i; minute = x i - 1 }) r → Fair b le s x i r
  fair_first convex fits cheapest i base r leg more floor chosen =
      let last : Price = record { leg = i; minute = x i - 1 } in
      let bounds = cheapest.timing.bounds i leg.0 leg.1 in
      let ends = fits i leg in
      let own = worth-step b last leg.0 in
      ⊎_elim
      (λ kept.
      subst (Fair b le s x i) (sym kept.0)
      (record {
        named = floor.named;
        safe = safe_low i floor.least;
        covers = λ _. subst (λ v. le v (worth b base)) own kept.1;
      }))
      (λ newer.
      subst (Fair b le s x i) (sym newer.0)
      (record {
        named = inr (leg, omega arith, omega arith);
        safe = subst (λ v. Safe b le s x v i) (sym own) (safe_last order convex fits cheapest i leg more);
        covers = λ _. subst (λ v. le v (worth b last)) own (le_refl order (worth b last));
      }))
      chosen

  -- a price carried over a stop to the right, or to the left
  pub fair_right : (k : ℕ) (old new r : Price) → Fair b le s x k new → Fair b le s x (k + 1) old → earliest b.legs s k < reached x k → Greater b le old new r → Fair b le s x (k + 1) r
  fair_right k old new r left right loose =
      ⊎_elim
      (λ kept. subst (Fair b le s x (k + 1)) (sym kept.0) right)
      (λ newer.
      subst (Fair b le s x (k + 1)) (sym newer.0)
      (record { named = left.named; safe = safe_right left.safe loose; covers = λ more. order.transitive _ _ _ (right.covers more) newer.1 }))

  pub fair_left : (k : ℕ) (old new r : Price) → Fair b le s x k old → Fair b le s x (k + 1) new → reached x k < latest b.legs s k → Greater b le old new r → Fair b le s x k r
  fair_left k old new r left right loose =
      ⊎_elim
      (λ kept. subst (Fair b le s x k) (sym kept.0) left)
      (λ newer.
      subst (Fair b le s x k) (sym newer.0)
      (record { named = right.named; safe = safe_left right.safe loose; covers = λ more. order.transitive _ _ _ (left.covers more) newer.1 }))

  -- every price fair after one is put to leg i
  pub fair_set : (n i : ℕ) (ps : List Price) (r : Price) → i < length ps → Fair b le s x i r → FairUp b le s x n ps → FairUp b le s x n (set ps i r)
  fair_set n i ps r within own fair j low high =
      after_price (Fair b le s x j) ps i r j within (λ same. subst (λ m. Fair b le s x m r) (sym same) own) (λ _. fair j low high)

-- a relation between the prices of a stop's two legs, after a price is put to leg i
both_set : (b : Meaning) (R : Row → Row → Type 0) (ps : List Price) (r : Price) (i j : ℕ) → i < length ps → (j ≡ i → R (worth b r) (worth b (price_at ps (j + 1)))) → (j + 1 ≡ i → R (worth b (price_at ps j)) (worth b r)) → (j ≢ i → j + 1 ≢ i → R (worth b (price_at ps j)) (worth b (price_at ps (j + 1)))) → R (worth b (price_at (set ps i r) j)) (worth b (price_at (set ps i r) (j + 1)))
both_set b R ps r i j within here next old =
    after_price (λ p. R (worth b p) (worth b (price_at (set ps i r) (j + 1)))) ps i r j within
    (λ same. after_price (λ p. R (worth b r) (worth b p)) ps i r (j + 1) within (λ both. absurd (omega arith)) (λ _. here same))
    (λ other. after_price (λ p. R (worth b (price_at ps j)) (worth b p)) ps i r (j + 1) within next (λ past. old other past))

module _ {places : ℕ} {le : Row → Row → Type 0} (order : Order places le) (b : Meaning) (s : Settings) (x : ℕ → ℕ) (ps : List Price) (k : ℕ) (r : Price) where
  -- the greater price put behind stop k
  pub rises_right : k + 1 < length ps → ((j : ℕ) → 1 ≤ j → j < k → Rises b le s x ps j) → Greater b le (price_at ps (k + 1)) (price_at ps k) r → (j : ℕ) → 1 ≤ j → j < k + 1 → Rises b le s x (set ps (k + 1) r) j
  rises_right within rises chosen j low high loose =
      both_set b le ps r (k + 1) j within
      (λ same. absurd (omega arith))
      (λ next. let e : k ≡ j = omega arith in subst (λ m. le (worth b (price_at ps m)) (worth b r)) e (greater_new order b _ _ r chosen))
      (λ _ past. rises j low (omega arith) loose)

  -- the greater price put before stop k
  pub rises_left : (n : ℕ) → 1 ≤ k → k < n → k < length ps → ((j : ℕ) → 1 ≤ j → j < n → Rises b le s x ps j) → Greater b le (price_at ps k) (price_at ps (k + 1)) r → (j : ℕ) → 1 ≤ j → j < n → Rises b le s x (set ps k r) j
  rises_left n low high within rises chosen j low' high' loose =
      both_set b le ps r k j within
      (λ same. subst (λ m. le (worth b r) (worth b (price_at ps (m + 1)))) (sym same) (settled (subst (Rises b le s x ps) same (rises j low' high')) (subst (λ m. earliest b.legs s m < reached x m) same loose)))
      (λ next. order.transitive _ _ _ (subst (λ m. le (worth b (price_at ps j)) (worth b (price_at ps m))) next (rises j low' high' loose)) (greater_old order b _ _ r chosen))
      (λ _ _. rises j low' high' loose)
    where
      settled : Rises b le s x ps k → earliest b.legs s k < reached x k → le (worth b r) (worth b (price_at ps (k + 1)))
      settled old loose' =
          ⊎_elim
          (λ kept. subst (λ p. le (worth b p) (worth b (price_at ps (k + 1)))) (sym kept.0) (old loose'))
          (λ newer. subst (λ p. le (worth b p) (worth b (price_at ps (k + 1)))) (sym newer.0) (le_refl order _))
          chosen

  pub falls_left : (n : ℕ) → k < length ps → ((j : ℕ) → k < j → j < n → Falls b le s x ps j) → Greater b le (price_at ps k) (price_at ps (k + 1)) r → (j : ℕ) → k ≤ j → j < n → Falls b le s x (set ps k r) j
  falls_left n within falls chosen j low high loose =
      both_set b (λ v w. le w v) ps r k j within
      (λ same. subst (λ m. le (worth b (price_at ps (m + 1))) (worth b r)) (sym same) (greater_new order b _ _ r chosen))
      (λ next. absurd (omega arith))
      (λ other _. falls j (omega arith) high loose)
