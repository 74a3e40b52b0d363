-- The refusals of the sheet layer: number, layer and leg of each case.
-- Assumes nothing.
use Rattle.std.specs.Prelude.{ℕ}
use Rattle.board.specs.declared.Layer.TheVariants.{Sheet}
use Rattle.board.specs.declared.Refusal.{Refusal}
use Rattle.books.specs.Faults as books
use Rattle.solver.specs.declared.fault.PlanFault.{PlanFault}
use Rattle.solver.specs.declared.fault.PlanFault.TheVariants.{Stuck, Unlawful}
use Rattle.register.specs.declared.fault.SheetFault.{SheetFault}
use Rattle.register.specs.declared.fault.SheetFault.TheVariants.{Standing, Blank, NoSuchLeg, Crossed, TooLarge, OutsideEnds, ShortArea, NoTiming, Book}

-- row `number` of the refusal board, told of a leg or stop
abbrev pub row : ℕ → ℕ → Refusal
row number leg = record { number = number; layer = Sheet; leg = leg }

-- what each refusal tells; one of the book is told as the book tells it
abbrev pub told : SheetFault → Refusal
told (Standing leg) = row 9 leg
told (Blank leg) = row 10 leg
told (NoSuchLeg leg) = row 11 leg
told (Crossed leg) = row 12 leg
told (TooLarge leg) = row 13 leg
told (OutsideEnds leg) = row 14 leg
told (ShortArea leg) = row 15 leg
told (NoTiming leg) = row 16 leg
told (Book fault) = books.told fault

-- a plan without a timing is refused as such, with the first leg at which nothing is left; one that does not fit names no leg
abbrev pub timeless : PlanFault → SheetFault
timeless (Stuck leg) = NoTiming leg
timeless Unlawful = NoTiming 0
