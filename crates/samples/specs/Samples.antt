-- The sample rotations: small books, what is asked of them, and what stands then.
-- Assumes nothing.
use Rattle.std.specs.Prelude.{◌≡◌, ℕ, ◌-◌, ◌≤◌, ◌⊎◌, List, [], ◌∷◌, replicate, pos, slice_index_or}
use Rattle.std.specs.List.{AllByRecursion}
use Rattle.amounts.specs.Orders.{ByNumber, ByRank}
use Rattle.amounts.specs.Rows.{Row, joined, single}
use Rattle.charges.specs.Charges.{charged}
use Rattle.books.specs.Formula.{formulas}
use Rattle.books.specs.Meaning.{Meaning}
use Rattle.books.specs.declared.formula.FormulaLeg.{FormulaLeg}
use Rattle.optimum.specs.Prices.{PriceRule, worth}
use Rattle.optimum.specs.Rotation.{Cheapest, cost_of_timing}
use Rattle.optimum.specs.declared.Price.{Price}
use Rattle.states.specs.Costs.{flown}
use Rattle.register.specs.Faults.{row}
use Rattle.register.specs.declared.areas.Areas.{Areas}
use Rattle.register.specs.Register.{Register, Cramped, Answered, blank, standing, granted, refused, after}
use Rattle.register.specs.declared.call.Call.{Call}
use Rattle.register.specs.declared.call.Call.TheVariants.{Open, Window, Total}

-- ---- the books

-- a leg flown in 50 to 70 minutes, that costs q kilograms times the square of their distance from 60
abbrev pub leg : ℕ → FormulaLeg
leg q = record { q = q; t = 60; r = pos 0; lo = 50; hi = 70 }

-- a book of n such legs
abbrev pub legs : ℕ → ℕ → Meaning
legs q n = formulas (replicate n (leg q))

-- the book G of n legs
abbrev pub G : ℕ → Meaning
G n = legs 1 n

-- a book in kilograms, and behind it 3 cents a minute on leg 1 and 2 cents a minute on leg 2
abbrev pub rated : Meaning → Meaning
rated b = charged 1 b (3 ∷ 2 ∷ [])

-- ---- amounts and their orders

-- so many kilograms
abbrev pub kilograms : ℕ → Row
kilograms v = single (pos v)

-- so many kilograms, and so many cents behind them
abbrev pub kilograms_cents : ℕ → ℕ → Row
kilograms_cents v w = joined 1 (single (pos v)) (single (pos w))

-- kilograms decide, and cents decide between equals
abbrev pub KilogramsFirst : Row → Row → Type 0
KilogramsFirst = ByRank 1 ByNumber ByNumber

-- ---- what stands

-- what a granted call leaves of the register r
abbrev pub left : Meaning → Register → Call → Register
left b r call = standing (after b r call)

-- the minutes y of the legs 1 to n are those of one of the timings, each a list with leg 1 first
abbrev pub OneOf : ℕ → (ℕ → ℕ) → List (List ℕ) → Type 0
OneOf n y [] = ⊥
OneOf n y (minutes ∷ others) = ((i : ℕ) → 1 ≤ i → i ≤ n → y i ≡ flown minutes i) ⊎ OneOf n y others

-- the register r, lent long enough areas, grants the call at this cost; and for the settings that the call leaves the timings
-- are cheapest and cost that, and no other timing is cheapest: what stands then is one of them
pub record Granted (b : Meaning) (le : Row → Row → Type 0) (r : Register) (call : Call) (timings : List (List ℕ)) (cost : Row) : Type 0 where
  pub answered : (areas : Areas) → (Cramped b r call areas → ⊥) → Answered b le r call areas (granted cost) (left b r call)
  pub cheapest : AllByRecursion (λ minutes. Cheapest b le (after b r call) (flown minutes)) timings
  pub costs : AllByRecursion (λ minutes. cost_of_timing b (flown minutes) ≡ cost) timings
  pub only : (y : ℕ → ℕ) → Cheapest b le (after b r call) y → OneOf b.legs y timings

-- the register r, lent long enough areas, refuses the call with 16 at this leg and stays as it was
abbrev pub Impossible : Meaning → (Row → Row → Type 0) → Register → Call → ℕ → Type 0
Impossible b le r call leg = (areas : Areas) → (Cramped b r call areas → ⊥) → Answered b le r call areas (refused (row 16 leg)) r

-- the price of leg i in a list, leg 1 first
abbrev pub priced : List Price → ℕ → Price
priced prices i = slice_index_or prices (i - 1) (record { leg = 0; minute = 0 })

-- three legs of G, opened with 174 minutes
abbrev pub three : Register
three = left (G 3) blank (Open 174)

-- two legs of G, opened with 120 minutes; then with a window after the first; then in 125 minutes
abbrev pub two : Register
two = left (G 2) blank (Open 120)

abbrev pub two_shut : Register
two_shut = left (G 2) two (Window 1 50 61)

abbrev pub two_longer : Register
two_longer = left (G 2) two_shut (Total 125)

-- their prices: the step from 60 to 61 minutes on leg 1, and that from 63 to 64 on leg 2
abbrev pub two_prices : List Price
two_prices = record { leg = 1; minute = 60 } ∷ (record { leg = 2; minute = 63 } ∷ [])

-- the samples
pub record Samples : Type 0 where
  -- one leg in 60 minutes; in 71, more than it can be flown in, there is no timing
  pub one_leg : Granted (G 1) ByNumber blank (Open 60) ((60 ∷ []) ∷ []) (kilograms 0)
  pub one_leg_late : Impossible (G 1) ByNumber blank (Open 71) 1
  -- three legs in 174 minutes, and then a window after the second; where it shuts too early, leg 3 cannot make up for it
  pub three_legs : Granted (G 3) ByNumber blank (Open 174) ((58 ∷ 58 ∷ 58 ∷ []) ∷ []) (kilograms 12)
  pub shut_at_105 : Granted (G 3) ByNumber three (Window 2 100 105) ((52 ∷ 53 ∷ 69 ∷ []) ∷ (53 ∷ 52 ∷ 69 ∷ []) ∷ []) (kilograms 194)
  pub shut_at_104 : Granted (G 3) ByNumber three (Window 2 100 104) ((52 ∷ 52 ∷ 70 ∷ []) ∷ []) (kilograms 228)
  pub shut_at_103 : Impossible (G 3) ByNumber three (Window 2 100 103) 3
  -- two legs, then a window, and then another total: the timing, and the prices 1 and 7, which keep the rule
  pub two_legs : Granted (G 2) ByNumber blank (Open 120) ((60 ∷ 60 ∷ []) ∷ []) (kilograms 0)
  pub shut_at_61 : Granted (G 2) ByNumber two (Window 1 50 61) ((60 ∷ 60 ∷ []) ∷ []) (kilograms 0)
  pub longer : Granted (G 2) ByNumber two_shut (Total 125) ((61 ∷ 64 ∷ []) ∷ []) (kilograms 17)
  pub price_1 : worth (G 2) (priced two_prices 1) ≡ kilograms 1
  pub price_7 : worth (G 2) (priced two_prices 2) ≡ kilograms 7
  pub prices : PriceRule (G 2) ByNumber (after (G 2) two_shut (Total 125)) (flown (61 ∷ 64 ∷ [])) (priced two_prices)
  -- then a window that leg 1 cannot meet: what stood, with the timing 61 64, stands still
  pub too_early : Impossible (G 2) ByNumber two_longer (Window 1 10 20) 1
  -- two legs with rates: cents decide where kilograms do not, and only there
  pub cents_alone : Granted (rated (legs 0 2)) KilogramsFirst blank (Open 120) ((50 ∷ 70 ∷ []) ∷ []) (kilograms_cents 0 290)
  pub cents_second : Granted (rated (G 2)) KilogramsFirst blank (Open 120) ((60 ∷ 60 ∷ []) ∷ []) (kilograms_cents 0 300)
