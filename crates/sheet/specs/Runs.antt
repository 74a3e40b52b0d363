-- A list of calls as the register is fed it, and that its answers are determined.
-- Assumes nothing.
use Rattle.std.specs.Prelude.{◌≡◌, ℕ, min, List, map}
use Rattle.amounts.specs.Rows.{Row, Same}
use Rattle.books.specs.Meaning.{Meaning}
use Rattle.register.specs.Register.{Register, Reply, refused, granted, closed, Answered}
use Rattle.register.specs.declared.areas.Areas.{Areas}
use Rattle.register.specs.declared.call.Call.{Call}
use Rattle.sheet.specs.declared.calls.Asked.{Asked}

-- what the register is told of a call: it is handed as many places as were asked for, as far as the areas reach
abbrev pub told_of : Areas → Asked → Call × Areas
told_of room asked = (asked.call, record { minutes = min asked.areas.minutes room.minutes; amounts = min asked.areas.amounts room.amounts })

-- what the register is told of a list of calls
abbrev pub fed : Areas → List Asked → List (Call × Areas)
fed room calls = map (told_of room) calls

-- two replies are the same, costs in each of their n places
abbrev pub SameReply : ℕ → Reply → Reply → Type 0
SameReply n (refused why) (refused why') = why ≡ why'
SameReply n (refused why) (granted cost) = ⊥
SameReply n (refused why) closed = ⊥
SameReply n (granted cost) (refused why) = ⊥
SameReply n (granted cost) (granted cost') = Same n cost cost'
SameReply n (granted cost) closed = ⊥
SameReply n closed (refused why) = ⊥
SameReply n closed (granted cost) = ⊥
SameReply n closed closed = Unit {0}

-- the register's answer is one: no two replies fit, and no two registers
abbrev pub OneAnswer : Meaning → (Row → Row → Type 0) → ℕ → Type 0
OneAnswer b le n = (r r' r'' : Register) (call : Call) (areas : Areas) (reply reply' : Reply) → Answered b le r call areas reply r' → Answered b le r call areas reply' r'' → SameReply n reply reply' × (r' ≡ r'')
