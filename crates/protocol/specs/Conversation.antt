-- A text of calls and the text that answers it.
-- Assumes nothing.
use Rattle.std.specs.Prelude.{◌≡◌, ℕ, ◌+◌, List, [], ◌∷◌, ◌++◌, Ok, Err, Result, OnOk}
use Rattle.answers.specs.Spelling.{Reply, refused, Spells}
use Rattle.frames.specs.Faults as frames
use Rattle.frames.specs.Frames.{Answer}
use Rattle.frames.specs.declared.calls.Call.{Call}
use Rattle.frames.specs.declared.faults.FrameFault.{FrameFault}
use Rattle.register.specs.declared.areas.Areas.{Areas}
use Rattle.protocol.specs.Requests.{requested}
use Rattle.protocol.specs.Stages.{Stage, Start, Served}

-- what a line that was read is answered: a refused frame changes nothing, and a call is served
abbrev pub Heard : Areas → Stage → Result Call FrameFault → Reply → ℕ → Stage → Type 0
Heard room stage (Err fault) reply n after = (reply ≡ refused (frames.told fault) n) × (after ≡ stage)
Heard room stage (Ok call) reply n after = Served room stage (requested call) reply n after

-- what the line with the number n is answered, and the stage after it
pub record Line (room : Areas) (stage : Stage) (line : List ℕ) (reply : Reply) (n : ℕ) (after : Stage) : Type 0 where
  pub read : Result Call FrameFault
  pub so_read : Answer line read
  pub heard : Heard room stage read reply n after

-- what lines are answered, the first of which has the number n: each by the line that spells its answer, and a line feed after it
abbrev pub Answers : Areas → ℕ → Stage → List (List ℕ) → List ℕ → Type 0
Answers room n stage [] out = out ≡ []
Answers room n stage (line ∷ lines) out =
    (reply : Reply) × (after : Stage) × (words : List ℕ) × (rest : List ℕ) × Line room stage line reply n after × Spells words reply × (out ≡ words ++ 10 ∷ rest) × Answers room (n + 1) after lines rest

-- the whole conversation: it starts with an empty book, and lines count from 1
abbrev pub Conversation : Areas → List (List ℕ) → List ℕ → Type 0
Conversation room lines out = (stage : Stage) × Start stage × Answers room 1 stage lines out

-- lines answered behind what a text held before: it grew by something, which is the conversation unless memory ran out
abbrev pub Says : {E : Type 0} → Areas → List (List ℕ) → List ℕ → Result (Unit {0}) E → List ℕ → Type 0
Says room lines before r after = (said : List ℕ) × (after ≡ before ++ said) × OnOk r (Conversation room lines said)
