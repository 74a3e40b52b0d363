-- Answers, and the lines that spell them: capital hexadecimal, numbers high byte first.
-- Assumes nothing.
use Rattle.std.specs.Prelude.{◌≡◌, ℕ, ◌/◌, ◌%◌, ◌^◌, ◌<◌, ◌≤◌, List, [], ◌∷◌, length, ℤ, FitsSigned}
use Rattle.std.specs.Int.{w64}
use Rattle.std.proofs.Common.{of_z}
use Rattle.std.specs.List.{AllByRecursion}
use Rattle.board.specs.Layers.{code}
use Rattle.board.specs.declared.Refusal.{Refusal}
use Rattle.frames.specs.Frames.{word}
use Rattle.hexadecimal.specs.Hex.{hexed}

-- an answer: done; the minutes that stand, from leg 1 on, with their kilograms and cents; or a refusal and the number of its line
pub data Reply : Type 0 where
  done : Reply
  timing : List ℕ → ℤ → ℤ → Reply
  refused : Refusal → ℕ → Reply

-- a number with its sign in eight bytes, in two's complement, in front of the rest
abbrev pub wide : ℤ → List ℕ → List ℕ
wide z rest =
    (of_z w64 z / 72057594037927936 % 256) ∷ (of_z w64 z / 281474976710656 % 256) ∷ (of_z w64 z / 1099511627776 % 256) ∷ (of_z w64 z / 4294967296 % 256)
    ∷ (of_z w64 z / 16777216 % 256) ∷ (of_z w64 z / 65536 % 256) ∷ (of_z w64 z / 256 % 256) ∷ (of_z w64 z % 256) ∷ rest

-- numbers in two bytes each, in front of the rest
abbrev pub words : List ℕ → List ℕ → List ℕ
words [] rest = rest
words (n ∷ ns) rest = word n (words ns rest)

-- the bytes of an answer: its kind, and then what it tells
abbrev pub answer_bytes : Reply → List ℕ
answer_bytes done = 0x80 ∷ []
answer_bytes (timing minutes kilograms cents) = 0x81 ∷ length minutes ∷ words minutes (wide kilograms (wide cents []))
answer_bytes (refused refusal line) = 0xEE ∷ refusal.number ∷ code refusal.layer ∷ refusal.leg ∷ word line []

-- the line that spells an answer
abbrev pub spelled : Reply → List ℕ
spelled reply = hexed (answer_bytes reply)

-- numbers that fit their fields: minutes and lines two bytes, legs and numbers one, amounts eight with their sign; and 64 legs at most
abbrev pub Fits : Reply → Type 0
Fits done = Unit {0}
Fits (timing minutes kilograms cents) = (length minutes ≤ 64) × AllByRecursion (λ m. m < 2 ^ 16) minutes × FitsSigned w64 kilograms × FitsSigned w64 cents
Fits (refused refusal line) = (refusal.number < 2 ^ 8) × (refusal.leg < 2 ^ 8) × (line < 2 ^ 16)

-- a line that spells an answer
pub record Spells (line : List ℕ) (reply : Reply) : Type 0 where
  pub is : line ≡ spelled reply
  pub fits : Fits reply
