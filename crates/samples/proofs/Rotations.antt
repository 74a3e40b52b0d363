-- How a sample is shown: granted by a test of every timing, or refused by minutes that get as far as the leg before.
use Rattle.std.proofs.Common.{◌≡◌, ℕ, suc, ◌<◌, Bool, true, not, ◌&&◌, ◌||◌, List, [], ◌∷◌, pos, sym, refl, ap, ◌∙◌, inl, inr, arith}
use lib.Signed.{le_z}
use Rattle.std.specs.List.{AllByRecursion}
use Rattle.std.proofs.lemmas.Int.{ints}
use Rattle.std.proofs.lemmas.Bool.{and_parts, or_cases, cases_Bool}
use Rattle.amounts.specs.Orders.{ByNumber}
use Rattle.amounts.specs.Rows.{Row, single, joined, rest}
use Rattle.board.specs.Rules.{Clear}
use Rattle.books.specs.Meaning.{Meaning}
use Rattle.optimum.specs.Rotation.{Settings, Timing, Stuck, Cheapest, cost_of_timing}
use Rattle.optimum.proofs.Reach.{keeps_less}
use Rattle.optimum.proofs.Sums.{spent_same}
use Rattle.solver.specs.Plans.{First}
use Rattle.states.specs.Costs.{flown}
use Rattle.register.specs.Register.{Register, Cramped, Times, entry_rows, after}
use Rattle.register.specs.declared.areas.Areas.{Areas}
use Rattle.register.specs.declared.call.Call.{Call}
use Rattle.states.proofs.Answering.{answered_granted, answered_stuck}
use Rattle.samples.specs.Samples.{legs, G, rated, kilograms, kilograms_cents, KilogramsFirst, OneOf, Granted, Impossible}
use Rattle.samples.proofs.Sums.{legs_cost, rated_cost}
use Rattle.samples.proofs.Trials.{keeps_test, keeps_tested}
use Rattle.samples.proofs.Ways.{Alike, all_test, all_tested, one_test, one_tested}

-- ---- the two orders, tested

-- a test of the order le
pub record Tested (le : Row → Row → Type 0) (test : Row → Row → Bool) : Type 0 where
  pub sound : (x y : Row) → test x y ≡ true → le x y
  pub complete : (x y : Row) → le x y → test x y ≡ true

abbrev pub number_test : Row → Row → Bool
number_test x y = le_z (x 0) (y 0)

pub number_tested : Tested ByNumber number_test
number_tested = record { sound = λ x y passed. grind (arith, ints); complete = λ x y least. grind (arith, ints) }

abbrev pub ranked_test : Row → Row → Bool
ranked_test x y = number_test x y && (not (number_test y x) || le_z (x 1) (y 1))

pub ranked_tested : Tested KilogramsFirst ranked_test
unfolding rest
ranked_tested = record { sound = sound; complete = complete }
  where
    sound : (x y : Row) → ranked_test x y ≡ true → KilogramsFirst x y
    sound x y passed =
        let parts = and_parts _ _ passed in (
          number_tested.sound x y parts.0,
          λ back. elim (or_cases (not (number_test y x)) _ parts.1) [ inl apart ↦ grind (arith, ints) | inr less ↦ grind (arith, ints) ],
        )

    complete : (x y : Row) → KilogramsFirst x y → ranked_test x y ≡ true
    complete x y least =
        elim (cases_Bool (number_test y x)) [
          | inl back ↦ (let second = least.1 (number_tested.sound y x back) in grind (arith, ints))
          | inr apart ↦ grind (arith, ints)
        ]

-- ---- what is granted, by a test of every timing

-- long enough areas leave no row of the board to apply before the timing
abbrev pub Entered : Meaning → Register → Call → Type 0
Entered b r call = (areas : Areas) → (Cramped b r call areas → ⊥) → Clear (entry_rows b r call areas)

module _ (test : Row → Row → Bool) (b : Meaning) (s : Settings) (cost : Row) (timings : List (List ℕ)) where
  -- the minutes z cost no less, and cost that only if they are one of the timings
  abbrev pub least_test : (ℕ → ℕ) → Bool
  least_test z = test cost (cost_of_timing b z) && (not (test (cost_of_timing b z) cost) || one_test b.legs z timings)

  -- every timing passes that
  abbrev pub AllLeast : Type 0
  AllLeast = all_test b.legs s least_test ≡ true

  -- minutes that are a timing and cost that
  abbrev pub Meets : List ℕ → Type 0
  Meets minutes = (keeps_test b.legs s (flown minutes) b.legs ≡ true) × (cost_of_timing b (flown minutes) ≡ cost)

  meets_timing : (minutes : List ℕ) → Meets minutes → Timing b.legs s (flown minutes)
  meets_timing minutes meets = keeps_tested b.legs s (flown minutes) b.legs meets.0

  module _ {le : Row → Row → Type 0} (tested : Tested le test) (all : AllLeast) where
    meets_cheapest : (minutes : List ℕ) → Meets minutes → Cheapest b le s (flown minutes)
    meets_cheapest minutes meets =
        record {
          timing = meets_timing minutes meets;
          least = λ y timing.
              let like = all_tested b.legs s least_test y all timing in
              rw (meets.1, ← spent_same b like.0 y b.legs like.1) (tested.sound _ _ (and_parts _ _ like.2).0);
        }

    -- minutes like those of a cheapest timing pass only as one of the timings
    meets_one :
        (minutes : List ℕ) → Meets minutes → (w y : ℕ → ℕ) → Alike w y b.legs → least_test w ≡ true → Cheapest b le s y → OneOf b.legs y timings
    meets_one minutes meets w y alike passed cheapest =
        let no_more : le (cost_of_timing b w) cost = rw (spent_same b w y b.legs alike, ← meets.1) (cheapest.least (flown minutes) (meets_timing minutes meets)) in
        elim (or_cases (not (test (cost_of_timing b w) cost)) _ (and_parts _ _ passed).1) [
          | inl more ↦ absurd (grind (arith, tested.complete _ _ no_more))
          | inr one ↦ one_tested b.legs w y timings alike one
        ]

    meets_only : (minutes : List ℕ) → Meets minutes → (y : ℕ → ℕ) → Cheapest b le s y → OneOf b.legs y timings
    meets_only minutes meets y cheapest =
        let like = all_tested b.legs s least_test y all cheapest.timing in
        meets_one minutes meets like.0 y like.1 like.2 cheapest

-- what holds of each where it follows from something that does
every_then : {A : Type 0} {P Q : A → Type 0} → ((x : A) → P x → Q x) → (xs : List A) → AllByRecursion P xs → AllByRecursion Q xs
every_then f [] each = tt
every_then f (x ∷ xs) each = (f x each.0, every_then f xs each.1)

granted_by :
    {le : Row → Row → Type 0} (test : Row → Row → Bool) → Tested le test → (b : Meaning) (r : Register) (call : Call)
    (first : List ℕ) (others : List (List ℕ)) (cost : Row) → Entered b r call → Times call →
    AllByRecursion (Meets test b (after b r call) cost (first ∷ others)) (first ∷ others) → AllLeast test b (after b r call) cost (first ∷ others) →
    Granted b le r call (first ∷ others) cost
granted_by {le} test tested b r call first others cost entered times meets all =
    record {
      answered = λ areas long. answered_granted b r call areas _ (flown first) cost (entered areas long) times (cheapest first meets.0) (sym meets.0.1) refl;
      cheapest = every_then cheapest timings meets;
      costs = every_then (λ minutes is. is.1) timings meets;
      only = meets_only test b s cost timings tested all first meets.0;
    }
  where
    s : Settings
    s = after b r call

    timings : List (List ℕ)
    timings = first ∷ others

    cheapest : (minutes : List ℕ) → Meets test b s cost timings minutes → Cheapest b le s (flown minutes)
    cheapest = meets_cheapest test b s cost timings tested all

-- in kilograms over G, and with cents behind them over the books with rates
pub kilograms_by :
    (n : ℕ) (r : Register) (call : Call) (first : List ℕ) (others : List (List ℕ)) (v : ℕ) → Entered (G n) r call → Times call →
    AllByRecursion (λ minutes. (keeps_test (G n).legs (after (G n) r call) (flown minutes) (G n).legs ≡ true) × (cost_of_timing (G n) (flown minutes) 0 ≡ pos v)) (first ∷ others) →
    AllLeast number_test (G n) (after (G n) r call) (kilograms v) (first ∷ others) → Granted (G n) ByNumber r call (first ∷ others) (kilograms v)
kilograms_by n r call first others v entered times each all =
    let meets = every_then (λ minutes is. (is.0, legs_cost 1 n (flown minutes) ∙ ap single is.1)) (first ∷ others) each in
    granted_by number_test number_tested (G n) r call first others (kilograms v) entered times meets all

pub cents_by :
    (q : ℕ) (r : Register) (call : Call) (minutes : List ℕ) (v w : ℕ) → Entered (rated (legs q 2)) r call → Times call →
    keeps_test 2 (after (rated (legs q 2)) r call) (flown minutes) 2 ≡ true → cost_of_timing (rated (legs q 2)) (flown minutes) 0 ≡ pos v →
    cost_of_timing (rated (legs q 2)) (flown minutes) 1 ≡ pos w →
    AllLeast ranked_test (rated (legs q 2)) (after (rated (legs q 2)) r call) (kilograms_cents v w) (minutes ∷ []) →
    Granted (rated (legs q 2)) KilogramsFirst r call (minutes ∷ []) (kilograms_cents v w)
cents_by q r call minutes v w entered times keeps first second all =
    let b = rated (legs q 2) in
    let costs = rated_cost q 2 (flown minutes) ∙ ap (λ a. joined 1 (single a) (single (cost_of_timing b (flown minutes) 1))) first ∙ ap (λ a. joined 1 (single (pos v)) (single a)) second in
    granted_by ranked_test ranked_tested b r call minutes [] (kilograms_cents v w) entered times ((keeps, costs), tt) all

-- ---- what is refused

-- the minutes x keep all up to leg k, and none keep all up to the next
first_stuck :
    (n : ℕ) (s : Settings) (k : ℕ) (x : ℕ → ℕ) → k < n → keeps_test n s x k ≡ true → Stuck n s (suc k) → First n s (suc k)
first_stuck n s k x is keeps stuck =
    record {
      leg = (omega arith, is);
      stuck = stuck;
      before = λ j below none. none x (keeps_less n s x j k (omega arith) (keeps_tested n s x k keeps));
    }

pub impossible_by :
    {le : Row → Row → Type 0} (b : Meaning) (r : Register) (call : Call) (k : ℕ) (x : ℕ → ℕ) → Entered b r call → Times call → k < b.legs →
    keeps_test b.legs (after b r call) x k ≡ true → Stuck b.legs (after b r call) (suc k) → Impossible b le r call (suc k)
impossible_by b r call k x entered times is keeps stuck areas long =
    answered_stuck b r call areas (suc k) (entered areas long) times (first_stuck b.legs (after b r call) k x is keeps stuck)
