-- The refusals of a line: number, layer and leg of each case, as the layer tells it.
-- Assumes nothing.
use Rattle.board.specs.declared.Refusal.{Refusal}
use Rattle.frames.specs.Faults as frames
use Rattle.register.specs.Faults as sheets
use Rattle.protocol.specs.declared.fault.LineFault.{LineFault}
use Rattle.protocol.specs.declared.fault.LineFault.TheVariants.{Frame, Sheet}

-- what each refusal tells: what the layer that refused tells of it
abbrev pub told : LineFault → Refusal
told (Frame fault) = frames.told fault
told (Sheet fault) = sheets.told fault
