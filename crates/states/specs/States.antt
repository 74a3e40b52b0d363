-- What a sheet's plain state holds, and when it is sound for a book.
-- Assumes nothing.
use Rattle.std.specs.Prelude.{ℕ, List, length, Some, None, Option, IfSome}
use Rattle.amounts.specs.Rows.{Row}
use Rattle.books.specs.Meaning.{Meaning}
use Rattle.optimum.specs.Prices.{PriceRule}
use Rattle.optimum.specs.Rotation.{Cheapest}
use Rattle.optimum.specs.declared.Price.{Price}
use Rattle.solver.specs.Plans.{at, settings, Lawful, price_at}
use Rattle.register.specs.Register.{Register, blank, standing, Reply, Answered}
use Rattle.register.specs.declared.areas.Areas.{Areas}
use Rattle.register.specs.declared.call.Call.{Call}
use Rattle.states.specs.declared.standing.Standing.{Standing}
use Rattle.states.specs.declared.state.State.{State}

-- what stands read as a register: blank, or its settings
abbrev pub register : Option Standing → Register
register None = blank
register (Some s) = standing (settings s.plan)

-- the minutes of each leg in what stands; 0 if nothing does
abbrev pub minutes_in : Option Standing → ℕ → ℕ
minutes_in None = λ i. 0
minutes_in (Some s) = at s.found.minutes

-- the price of each leg in what stands; the price zero if nothing does
abbrev pub prices_in : Option Standing → ℕ → Price
prices_in None = λ i. record { leg = 0; minute = 0 }
prices_in (Some s) = price_at s.found.prices

-- a state read as a register: blank, or the settings that it holds
abbrev pub reading : State → Register
reading st = register st.standing

-- the minutes of each leg
abbrev pub minutes_of : State → ℕ → ℕ
minutes_of st = minutes_in st.standing

-- the price of each leg
abbrev pub prices_of : State → ℕ → Price
prices_of st = prices_in st.standing

-- what stands is settled for a book: its settings fit it, its minutes are a cheapest timing for them, and its prices keep the rule
pub record Settled (b : Meaning) (le : Row → Row → Type 0) (s : Standing) : Type 0 where
  pub lawful : Lawful b (settings s.plan)
  pub cheapest : Cheapest b le (settings s.plan) (at s.found.minutes)
  pub priced : PriceRule b le (settings s.plan) (at s.found.minutes) (price_at s.found.prices)

-- a state is blank, or what stands is settled for the book
pub record Sound (b : Meaning) (le : Row → Row → Type 0) (st : State) : Type 0 where
  pub settled : IfSome st.standing (Settled b le)

-- the lengths of two work areas
abbrev pub lent : {A : Type 0} → List ℕ → List A → Areas
lent minutes amounts = record { minutes = length minutes; amounts = length amounts }

-- a call on a sheet over the book b, from one state to the next: if the sheet was sound, the call was answered as the
-- register answers it, and the sheet is sound after it
pub record Carried (b : Meaning) (le : Row → Row → Type 0) (old : State) (call : Call) (areas : Areas) (reply : Reply) (new : State) : Type 0 where
  pub answered : Sound b le old → Answered b le (reading old) call areas reply (reading new)
  pub sound : Sound b le old → Sound b le new
