-- The register: what a sheet is measured by. It is kept for one book, is fed the calls with their numbers and the lengths
-- of their work areas, and knows nothing that the sheet holds or answers.
-- Assumes nothing.
use Rattle.std.specs.Prelude.{◌≡◌, ℕ, ◌+◌, ◌*◌, ◌<◌, ◌≤◌, cond, ◌&&◌, ◌⊎◌, List, [], ◌∷◌, ◌++◌, nat_le}
use Rattle.amounts.specs.Rows.{Row}
use Rattle.board.specs.Rules.{Rule, whole, each, Clear, Broken}
use Rattle.board.specs.declared.Refusal.{Refusal}
use Rattle.books.specs.Meaning.{Meaning, IsLeg}
use Rattle.optimum.specs.Rotation.{Settings, put, Stuck, Cheapest, cost_of_timing}
use Rattle.register.specs.Calls.{named}
use Rattle.register.specs.Faults.{row}
use Rattle.register.specs.declared.areas.Areas.{Areas}
use Rattle.register.specs.declared.call.Call.{Call}
use Rattle.register.specs.declared.call.Call.TheVariants.{Open, Bounds, Window, Lift, Total, Close}

-- blank, or settings
pub data Register : Type 0 where
  blank : Register
  standing : Settings → Register

-- ---- what a call sets

-- numbers of the legs 1 to n, and 0 for what is no leg, so that equal settings are equal as functions
unfoldable pub legwise : ℕ → (ℕ → ℕ) → ℕ → ℕ
legwise n f i = cond (nat_le 1 i && nat_le i n) (f i) 0

-- the settings of an open: the book's ends as bounds, every window 0 to 4,095
abbrev pub opened : Meaning → ℕ → Settings
opened b total = record { total = total; low = legwise b.legs b.lo; high = legwise b.legs b.hi; opens = λ k. 0; shuts = λ k. 4095 }

-- the settings s with the bounds c to d of leg i; the rest stays
abbrev pub with_bounds : ℕ → ℕ → ℕ → Settings → Settings
with_bounds i c d s = record { total = s.total; low = put s.low i c; high = put s.high i d; opens = s.opens; shuts = s.shuts }

-- the settings s with the window a to b of stop k; the rest stays
abbrev pub with_window : ℕ → ℕ → ℕ → Settings → Settings
with_window k a b s = record { total = s.total; low = s.low; high = s.high; opens = put s.opens k a; shuts = put s.shuts k b }

-- the settings s with another total; the rest stays
abbrev pub with_total : ℕ → Settings → Settings
with_total total s = record { total = total; low = s.low; high = s.high; opens = s.opens; shuts = s.shuts }

-- the settings that a register holds. A blank one holds none, and any would do here, those of an open with total 0:
-- a call that reads them is refused by row 10
abbrev pub held : Meaning → Register → Settings
held b blank = opened b 0
held b (standing s) = s

-- the settings that a call leaves
abbrev pub after : Meaning → Register → Call → Settings
after b r (Open total) = opened b total
after b r (Bounds leg low high) = with_bounds leg low high (held b r)
after b r (Window stop low high) = with_window stop low high (held b r)
after b r (Lift stop) = with_window stop 0 4095 (held b r)
after b r (Total total) = with_total total (held b r)
after b r Close = held b r

-- ---- the rows of the refusal board

-- the register holds settings
abbrev pub Stands : Register → Type 0
Stands blank = ⊥
Stands (standing s) = Unit {0}

-- the call is an open
abbrev pub Opens : Call → Type 0
Opens (Open total) = Unit {0}
Opens (Bounds leg low high) = ⊥
Opens (Window stop low high) = ⊥
Opens (Lift stop) = ⊥
Opens (Total total) = ⊥
Opens Close = ⊥

-- 9: open on a standing sheet
abbrev pub Reopened : Register → Call → Type 0
Reopened r call = Stands r × Opens call

-- 10: any other call on a blank one
abbrev pub Unopened : Register → Call → Type 0
Unopened r call = (Stands r → ⊥) × (Opens call → ⊥)

-- k is a stop between two legs
abbrev pub IsStop : Meaning → ℕ → Type 0
IsStop b k = (1 ≤ k) × (k < b.legs)

-- 11: open on 0 legs, a leg not 1 to n, a stop not 1 to n - 1
abbrev pub Elsewhere : Meaning → Call → Type 0
Elsewhere b (Open total) = b.legs ≡ 0
Elsewhere b (Bounds leg low high) = IsLeg b leg → ⊥
Elsewhere b (Window stop low high) = IsStop b stop → ⊥
Elsewhere b (Lift stop) = IsStop b stop → ⊥
Elsewhere b (Total total) = ⊥
Elsewhere b Close = ⊥

-- 12: low above high
abbrev pub Crossed : Call → Type 0
Crossed (Open total) = ⊥
Crossed (Bounds leg low high) = high < low
Crossed (Window stop low high) = high < low
Crossed (Lift stop) = ⊥
Crossed (Total total) = ⊥
Crossed Close = ⊥

-- 13: a number above 4,095
abbrev pub TooLarge : Call → Type 0
TooLarge (Open total) = 4095 < total
TooLarge (Bounds leg low high) = (4095 < low) ⊎ (4095 < high)
TooLarge (Window stop low high) = (4095 < low) ⊎ (4095 < high)
TooLarge (Lift stop) = ⊥
TooLarge (Total total) = 4095 < total
TooLarge Close = ⊥

-- 14: bounds outside the book's ends
abbrev pub Outside : Meaning → Call → Type 0
Outside b (Open total) = ⊥
Outside b (Bounds leg low high) = (low < b.lo leg) ⊎ (b.hi leg < high)
Outside b (Window stop low high) = ⊥
Outside b (Lift stop) = ⊥
Outside b (Total total) = ⊥
Outside b Close = ⊥

-- a call that puts a timing on the sheet: every one but close
abbrev pub Times : Call → Type 0
Times (Open total) = Unit {0}
Times (Bounds leg low high) = Unit {0}
Times (Window stop low high) = Unit {0}
Times (Lift stop) = Unit {0}
Times (Total total) = Unit {0}
Times Close = ⊥

-- 15: a work area too short for n legs and the total after the call
abbrev pub Cramped : Meaning → Register → Call → Areas → Type 0
Cramped b r call areas = Times call × ((areas.minutes < b.legs * ((after b r call).total + 1)) ⊎ (areas.amounts < 2 * ((after b r call).total + 1)))

-- 16: leg k is one up to which no minutes keep the settings that the call would leave
abbrev pub Timeless : Meaning → Register → Call → ℕ → Type 0
Timeless b r call k = Times call × IsLeg b k × Stuck b.legs (after b r call) k

-- rows 9 to 15 in order, each with what it tells: the leg or stop that the call names
abbrev pub entry_rows : Meaning → Register → Call → Areas → List Rule
entry_rows b r call areas = whole (Reopened r call) (row 9 (named call)) ∷ (whole (Unopened r call) (row 10 (named call)) ∷ (whole (Elsewhere b call) (row 11 (named call)) ∷ (whole (Crossed call) (row 12 (named call)) ∷ (whole (TooLarge call) (row 13 (named call)) ∷ (whole (Outside b call) (row 14 (named call)) ∷ (whole (Cramped b r call areas) (row 15 (named call)) ∷ []))))))

-- row 16: it tells the lowest leg at which nothing is left
abbrev pub timing_rows : Meaning → Register → Call → List Rule
timing_rows b r call = each (Timeless b r call) (row 16) ∷ []

-- all rows of a call, in order
abbrev pub board : Meaning → Register → Call → Areas → List Rule
board b r call areas = entry_rows b r call areas ++ timing_rows b r call

-- ---- the register's answer

-- what a call is answered: a refusal, the cost of a granted call, or that the sheet is closed
pub data Reply : Type 0 where
  refused : Refusal → Reply
  granted : Row → Reply
  closed : Reply

-- The register r answers a call by a reply and is r' after it: the first row that applies, staying as it was; or, if none
-- applies, the call sets what it says, and the reply is the least cost of a timing that meets the settings, in the order le.
-- A granted close blanks the register and tells no cost.
abbrev pub Answer : Meaning → (Row → Row → Type 0) → Register → Call → Areas → Reply → Register → Type 0
Answer b le r call areas (refused why) r' = Broken (board b r call areas) why × (r' ≡ r)
Answer b le r call areas (granted cost) r' = Clear (board b r call areas) × Times call × (r' ≡ standing (after b r call)) × ((x : ℕ → ℕ) × Cheapest b le (after b r call) x × (cost ≡ cost_of_timing b x))
Answer b le r call areas closed r' = Clear (board b r call areas) × (Times call → ⊥) × (r' ≡ blank)

-- the same as one record, so that its parts can be named
pub record Answered (b : Meaning) (le : Row → Row → Type 0) (r : Register) (call : Call) (areas : Areas) (reply : Reply) (r' : Register) : Type 0 where
  pub answer : Answer b le r call areas reply r'

-- a list of calls, answered one after the other
pub data Run (b : Meaning) (le : Row → Row → Type 0) : Register → List (Call × Areas) → List Reply → Register → Type 0 where
  stop : {r : Register} → Run b le r [] [] r
  step : {r r' r'' : Register} {call : Call} {areas : Areas} {reply : Reply} {calls : List (Call × Areas)} {replies : List Reply} → Answered b le r call areas reply r' → Run b le r' calls replies r'' → Run b le r ((call, areas) ∷ calls) (reply ∷ replies) r''
