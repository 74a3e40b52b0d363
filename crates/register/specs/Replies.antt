-- What the sheet's results say, in the register's words.
-- Assumes nothing.
use Rattle.amounts.specs.Rows.{Row}
use Rattle.std.specs.Prelude.{Some, None, Ok, Err, Option, Result}
use Rattle.register.specs.Faults.{told}
use Rattle.register.specs.Register.{Reply, refused, granted, closed}
use Rattle.register.specs.declared.fault.SheetFault.{SheetFault}

-- the result of a call that puts a timing on the sheet: its cost, or a refusal
abbrev pub timed : {A : Type 0} → (A → Row) → Result A SheetFault → Reply
timed row (Ok cost) = granted (row cost)
timed row (Err fault) = refused (told fault)

-- the result of a close
abbrev pub shut : Result (Unit {0}) SheetFault → Reply
shut (Ok done) = closed
shut (Err fault) = refused (told fault)

-- the result of any call: a cost, nothing for a close, or a refusal
abbrev pub reply : {A : Type 0} → (A → Row) → Result (Option A) SheetFault → Reply
reply row (Ok (Some cost)) = granted (row cost)
reply row (Ok None) = closed
reply row (Err fault) = refused (told fault)
