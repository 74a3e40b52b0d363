-- The leading open leg, one leg after the other. Assumes nothing.
use Rattle.std.proofs.Common.{◌≡◌, ℕ, ◌+◌, ◌<◌, ◌≤◌, List, Some, None, Option, sym, subst, subst₂, ⊎_elim, arith, MatchOption}
use Rattle.std.proofs.lemmas.Bool.{cases_eq}
use Rattle.amounts.specs.Rows.{Row}
use Rattle.amounts.specs.Orders.{Order}
use Rattle.amounts.specs.RowLaws.{le_refl}
use Rattle.books.specs.declared.Ends.{Ends}
use Rattle.solver.specs.Plans.{los, his}
use Rattle.solver.specs.Steps.{Direction, Up, Down, Before, Chosen, NoneOpen, Leads}

before_refl : {places : ℕ} {le : Row → Row → Type 0} → Order places le → (way : Direction) (x : Row) → Before way le x x
before_refl order Up x = le_refl order x
before_refl order Down x = le_refl order x

before_trans : {places : ℕ} {le : Row → Row → Type 0} → Order places le → (way : Direction) (x y z : Row) → Before way le x y → Before way le y z → Before way le x z
before_trans order Up x y z p q = order.transitive x y z p q
before_trans order Down x y z p q = order.transitive z y x q p

-- what holds of the legs 1 to k, and of leg k + 1
pub each_more : (P : ℕ → Type 0) (k : ℕ) → ((j : ℕ) → 1 ≤ j → j ≤ k → P j) → P (k + 1) → (j : ℕ) → 1 ≤ j → j ≤ k + 1 → P j
each_more P k before here j low high = ⊎_elim (λ same. subst P (sym same) here) (λ other. before j low (omega arith)) (cases_eq j (k + 1))

-- the best of the legs 1 to k, with its amount
abbrev pub Found : {A : Type 0} → (Row → Row → Type 0) → (A → Row) → (ℕ → Row) → List Ends → ℕ → Option (ℕ × A) → Type 0
Found before row rows es k best = MatchOption best (NoneOpen es k) (λ found. (row found.1 ≡ rows found.0) × Leads before rows es k found.0)

module _ {A : Type 0} {places : ℕ} {le : Row → Row → Type 0} (order : Order places le) (way : Direction) (row : A → Row) (rows : ℕ → Row) (es : List Ends) (k : ℕ) where
  -- one leg more that is not open
  pub found_shut : (best : Option (ℕ × A)) → Found (Before way le) row rows es k best → his es (k + 1) ≤ los es (k + 1) → Found (Before way le) row rows es (k + 1) best
  found_shut None none shut = each_more (λ j. los es j < his es j → ⊥) k none (λ free. omega arith)
  found_shut (Some best) found shut =
      let led = found.1 in
      (found.0, (led.0, omega arith, led.2, each_more (λ j. los es j < his es j → Before way le (rows best.0) (rows j)) k led.3 (λ free. absurd (omega arith))))

  -- one leg more that is open: r is the better of the two
  pub found_open : (best : Option (ℕ × A)) (a : A) (r : ℕ × A) → Found (Before way le) row rows es k best → los es (k + 1) < his es (k + 1) → row a ≡ rows (k + 1) → Chosen (Before way le) row best (k + 1, a) r → Found (Before way le) row rows es (k + 1) (Some r)
  found_open None a r none free own chosen =
      subst (λ f. Found (Before way le) row rows es (k + 1) (Some f)) (sym chosen) (
        own,
        (
          omega arith,
          omega arith,
          free,
          each_more (λ j. los es j < his es j → Before way le (rows (k + 1)) (rows j)) k
              (λ j low high free'. absurd (none j low high free'))
              (λ _. before_refl order way (rows (k + 1))),
        ),
      )
  found_open (Some old) a r found free own chosen =
      let led = found.1 in
      ⊎_elim
      (λ new.
      subst (λ f. Found (Before way le) row rows es (k + 1) (Some f)) (sym new.0) (
        own,
        (
          omega arith,
          omega arith,
          free,
          each_more (λ j. los es j < his es j → Before way le (rows (k + 1)) (rows j)) k
              (λ j low high free'. before_trans order way _ _ _ (subst₂ (Before way le) own found.0 new.1) (led.3 j low high free'))
              (λ _. before_refl order way (rows (k + 1))),
        ),
      ))
      (λ kept.
      subst (λ f. Found (Before way le) row rows es (k + 1) (Some f)) (sym kept.0)
      (found.0, (led.0, omega arith, led.2, each_more (λ j. los es j < his es j → Before way le (rows old.0) (rows j)) k led.3 (λ _. subst₂ (Before way le) found.0 own kept.1))))
      chosen
