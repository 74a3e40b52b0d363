-- What the reader says of a line.
-- Assumes nothing.
use Rattle.std.specs.Prelude.{◌≡◌, ℕ, ◌+◌, List, [], ◌∷◌, ◌++◌, Ok, Err, codes, decimal, Result}
use Rattle.frames.specs.Faults.{told}
use Rattle.frames.specs.Frames.{Answer}
use Rattle.frames.specs.Words.{words_of_call, words_of_fault}
use Rattle.frames.specs.declared.calls.Call.{Call}
use Rattle.frames.specs.declared.faults.FrameFault.{FrameFault}

-- the answer to a line in words, with the number of the line and of the refusal
abbrev pub answer_words : ℕ → Result Call FrameFault → List ℕ
answer_words number (Ok call) = codes "line " ++ (decimal number ++ (codes ": " ++ words_of_call call))
answer_words number (Err fault) = codes "line " ++ (decimal number ++ (codes ": refused (" ++ (decimal (told fault).number ++ (codes "): " ++ words_of_fault fault))))

-- what is said of a line: its answer in words
abbrev pub Says : ℕ → List ℕ → List ℕ → Type 0
Says number line words = (r : Result Call FrameFault) × Answer line r × (words ≡ answer_words number r)

-- what is said of lines, the first of which has this number: of each in turn, and a line feed after it
abbrev pub Reports : ℕ → List (List ℕ) → List ℕ → Type 0
Reports number [] report = report ≡ []
Reports number (line ∷ lines) report =
    (words : List ℕ) × (rest : List ℕ) × Says number line words × (report ≡ words ++ 10 ∷ rest) × Reports (number + 1) lines rest
