-- What a desk holds, and what its answers say.
-- Assumes nothing.
use Rattle.std.specs.Prelude.{ℕ, Some, None, Ok, Err, Option, Result}
use Rattle.answers.specs.Spelling.{Reply, done, timing, refused}
use Rattle.board.specs.declared.Refusal.{Refusal}
use Rattle.books.specs.Meaning.{Meaning}
use Rattle.register.specs.Register as register
use Rattle.register.specs.Register.{blank, Answered}
use Rattle.register.specs.declared.areas.Areas.{Areas}
use Rattle.states.specs.States.{reading}
use Rattle.register.specs.declared.call.Call.{Call}
use Rattle.states.specs.declared.state.State.{State}
use Rattle.protocol.specs.Stages.{Stage, writing, timing_on, legs_of, NoDearer, Told}
use Rattle.protocol.specs.declared.desk.Desk.{Desk}
use Rattle.protocol.specs.declared.desk.Desk.TheVariants.{Draft, Timing as OnSheet}
use Rattle.protocol.specs.declared.timing.Timing.{Timing}

-- a desk read as a stage
abbrev pub stage : Desk → Stage
stage (Draft b) = writing (legs_of b) b.rates.values
stage (OnSheet s) = timing_on (legs_of s.sheet.book) s.sheet.book.rates.values (reading s.sheet.state)

-- the first call for the sheet finishes the book, and finds a blank sheet
abbrev pub finished : Stage → Stage
finished (writing legs rates) = timing_on legs rates blank
finished (timing_on legs rates r) = timing_on legs rates r

-- what the result of a line or a call says, its faults told by `told`: done, a timing, or a refusal with the line's number
abbrev pub reply : {F : Type 0} → (F → Refusal) → ℕ → Result (Option Timing) F → Reply
reply told n (Ok None) = done
reply told n (Ok (Some t)) = timing t.minutes.items t.kilograms t.cents
reply told n (Err fault) = refused (told fault) n

-- what the result of an entry says
abbrev pub noted : {F : Type 0} → (F → Refusal) → ℕ → Result (Unit {0}) F → Reply
noted told n (Ok written) = done
noted told n (Err fault) = refused (told fault) n

-- a call on a sheet over the book b, from one state to the next, with its result: what the register answers, and how it is told
abbrev pub Stated : Meaning → Areas → State → Call → (ℕ → Reply) → State → Type 0
Stated b room old call told new =
    (answer : register.Reply) × Answered b NoDearer (reading old) call room answer (reading new) × ((n : ℕ) → Told b answer (reading new) n (told n))
