-- The refusals of the frame layer: number, layer and leg of each case. They tell no leg.
-- Assumes nothing.
use Rattle.std.specs.Prelude.{ℕ}
use Rattle.board.specs.declared.Layer.TheVariants.{Frame}
use Rattle.board.specs.declared.Refusal.{Refusal}
use Rattle.frames.specs.declared.faults.FrameFault.{FrameFault}
use Rattle.frames.specs.declared.faults.FrameFault.TheVariants.{Malformed, UnknownKind, WrongLength, TooLate}

-- row `number` of the refusal board, told of a line
abbrev pub row : ℕ → Refusal
row number = record { number = number; layer = Frame; leg = 0 }

-- what each refusal tells
abbrev pub told : FrameFault → Refusal
told Malformed = row 1
told UnknownKind = row 2
told WrongLength = row 3
told TooLate = row 4
