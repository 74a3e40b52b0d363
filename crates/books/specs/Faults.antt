-- The refusals of the book layer: number, layer and leg of each case, and the minute of a falling step.
-- Assumes nothing.
use Rattle.std.specs.Prelude.{ℕ, Some, None, Option}
use Rattle.board.specs.declared.Layer.TheVariants.{Book}
use Rattle.board.specs.declared.Refusal.{Refusal}
use Rattle.books.specs.declared.fault.BookFault.{BookFault}
use Rattle.books.specs.declared.fault.BookFault.TheVariants.{TooManyLegs, BadLeg, OutOfRange, FallingStep, NoSuchLeg}

-- row `number` of the refusal board, told of a leg
abbrev pub row : ℕ → ℕ → Refusal
row number leg = record { number = number; layer = Book; leg = leg }

-- what each refusal tells: its row, and its leg; a book that is full tells leg 65
abbrev pub told : BookFault → Refusal
told TooManyLegs = row 5 65
told (BadLeg leg) = row 6 leg
told (OutOfRange leg) = row 7 leg
told (FallingStep leg minute) = row 8 leg
told (NoSuchLeg leg) = row 11 leg

-- the middle minute that a falling step tells
abbrev pub middle : BookFault → Option ℕ
middle TooManyLegs = None
middle (BadLeg leg) = None
middle (OutOfRange leg) = None
middle (FallingStep leg minute) = Some minute
middle (NoSuchLeg leg) = None
