-- What every call on a sheet that is handed work areas promises.
-- Assumes nothing.
use Rattle.std.specs.Prelude.{◌≡◌, ℕ, List, Result, OnErr}
use Rattle.amounts.specs.Rows.{Row}
use Rattle.books.specs.Meaning.{Meaning}
use Rattle.register.specs.Register.{Reply}
use Rattle.register.specs.declared.call.Call.{Call}
use Rattle.register.specs.declared.fault.SheetFault.{SheetFault}
use Rattle.states.specs.States.{lent, Carried}
use Rattle.sheet.specs.declared.sheet.Sheet.{Sheet}

-- from one sheet to the next, with the areas before and after: the call is carried out on the state, the result telling the
-- reply; the book stays; and a refused call has written nothing
pub record Called {K A R : Type 0} (meaning : K → Meaning) (le : Row → Row → Type 0) (told : Result R SheetFault → Reply) (old new : Sheet K A) (call : Call) (minutes minutes' : List ℕ) (amounts amounts' : List A) (result : Result R SheetFault) : Type 0 where
  pub carried : Carried (meaning old.book) le old.state call (lent minutes amounts) (told result) new.state
  pub over : new.book ≡ old.book
  pub unwritten : OnErr result ((new.state ≡ old.state) × (minutes' ≡ minutes) × (amounts' ≡ amounts))
