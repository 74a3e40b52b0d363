-- The two stages of a conversation, and what each request is answered at them.
-- Assumes nothing.
use Rattle.std.specs.Prelude.{◌≡◌, ℕ, ◌⊎◌, List, length, ℤ}
use Rattle.amounts.specs.Orders.{ByNumber, ByRank}
use Rattle.amounts.specs.Rows.{Row}
use Rattle.answers.specs.Spelling.{Reply, done, timing, refused}
use Rattle.board.specs.Rules.{Clear, Broken}
use Rattle.board.specs.declared.Refusal.{Refusal}
use Rattle.books.specs.Boards.{leg_rules, rate_rules}
use Rattle.charges.specs.Charges.{charged, rate, RateSet}
use Rattle.books.specs.Formula.{formulas, Appended}
use Rattle.books.specs.declared.formula.FormulaBook.{FormulaBook}
use Rattle.charges.specs.declared.charge.ChargeBook.{ChargeBook}
use Rattle.books.specs.Meaning.{Meaning, IsLeg}
use Rattle.frames.specs.Faults as frames
use Rattle.frames.specs.declared.faults.FrameFault.TheVariants.{TooLate}
use Rattle.optimum.specs.Rotation.{Settings, Cheapest, cost_of_timing}
use Rattle.states.specs.Costs.{flown}
use Rattle.register.specs.Register as register
use Rattle.register.specs.Register.{Register, blank, standing, Answered}
use Rattle.register.specs.declared.areas.Areas.{Areas}
use Rattle.register.specs.declared.call.Call.{Call}
use Rattle.protocol.specs.declared.request.Entry.{Entry}
use Rattle.protocol.specs.declared.request.Entry.TheVariants.{Leg, Rate}
use Rattle.protocol.specs.declared.request.Request.{Request}
use Rattle.protocol.specs.declared.request.Request.TheVariants.{Write, Time}

-- the book is being written: its formula legs, and the rates over them;
-- or it is finished, and the sheet over it is at this register
pub data Stage : Type 0 where
  writing : Meaning → List ℕ → Stage
  timing_on : Meaning → List ℕ → Register → Stage

-- the formula legs of a charge book
abbrev pub legs_of : ChargeBook FormulaBook → Meaning
legs_of b = formulas b.below.legs.items

-- the book of formula legs under rates: kilograms in the first place, and cents in the second
abbrev pub book : Meaning → List ℕ → Meaning
book legs rates = charged 1 legs rates

-- kilograms decide, and cents decide between equals
abbrev pub NoDearer : Row → Row → Type 0
NoDearer = ByRank 1 ByNumber ByNumber

-- at the first: a book with no legs, and every rate 0
abbrev pub Start : Stage → Type 0
Start (writing legs rates) = (legs.legs ≡ 0) × ((i : ℕ) → rate rates i ≡ 0)
Start (timing_on legs rates r) = ⊥

-- an entry in the book: written, or refused with the first rule of the book's board that is broken, the book staying as it was;
-- once the book is finished it comes too late
abbrev pub Entered : Stage → Entry → Reply → ℕ → Stage → Type 0
Entered (writing legs rates) (Leg leg) reply n after =
    (Clear (leg_rules legs.legs leg) × (reply ≡ done) × ((legs' : Meaning) × Appended legs leg legs' × (after ≡ writing legs' rates)))
    ⊎ ((why : Refusal) × Broken (leg_rules legs.legs leg) why × (reply ≡ refused why n) × (after ≡ writing legs rates))
Entered (writing legs rates) (Rate leg value) reply n after =
    (Clear (rate_rules leg) × (reply ≡ done) × ((rates' : List ℕ) × RateSet rates leg value rates' × (after ≡ writing legs rates')))
    ⊎ ((why : Refusal) × Broken (rate_rules leg) why × (reply ≡ refused why n) × (after ≡ writing legs rates))
Entered (timing_on legs rates r) entry reply n after = (reply ≡ refused (frames.told TooLate) n) × (after ≡ timing_on legs rates r)

-- a list of minutes, leg 1 first, with kilograms and cents, tells a timing of the book b that is cheapest for the settings that stand
pub record Shown (b : Meaning) (s : Settings) (minutes : List ℕ) (kilograms cents : ℤ) (x : ℕ → ℕ) : Type 0 where
  pub cheapest : Cheapest b NoDearer s x
  pub legs : length minutes ≡ b.legs
  pub each : (i : ℕ) → IsLeg b i → flown minutes i ≡ x i
  pub weight : kilograms ≡ cost_of_timing b x 0
  pub charge : cents ≡ cost_of_timing b x 1

-- what the register's answer is told as, where it is r after the call: a timing that then stands with its cost; done for a close; a refusal
abbrev pub Told : Meaning → register.Reply → Register → ℕ → Reply → Type 0
Told b (register.refused why) r n reply = reply ≡ refused why n
Told b (register.granted cost) r n reply =
    (s : Settings) × (minutes : List ℕ) × (kilograms : ℤ) × (cents : ℤ) × (x : ℕ → ℕ) × (r ≡ standing s) × Shown b s minutes kilograms cents x × (reply ≡ timing minutes kilograms cents)
Told b register.closed r n reply = reply ≡ done

-- a call for the sheet: answered as the register over the finished book answers it
abbrev pub Timed : Areas → Stage → Call → Reply → ℕ → Stage → Type 0
Timed room (writing legs rates) call reply n after =
    (answer : register.Reply) × (r : Register) × Answered (book legs rates) NoDearer blank call room answer r × Told (book legs rates) answer r n reply × (after ≡ timing_on legs rates r)
Timed room (timing_on legs rates now) call reply n after =
    (answer : register.Reply) × (r : Register) × Answered (book legs rates) NoDearer now call room answer r × Told (book legs rates) answer r n reply × (after ≡ timing_on legs rates r)

-- what a request is answered, in a line with the number n
abbrev pub Served : Areas → Stage → Request → Reply → ℕ → Stage → Type 0
Served room stage (Write entry) reply n after = Entered stage entry reply n after
Served room stage (Time call) reply n after = Timed room stage call reply n after
