use Rattle.std.proofs.Common.{◌-◌, ◌≤◌, arith}
use Rattle.std.proofs.lemmas.Int.{to_z-of_z}
use Rattle.books.specs.Formula.{at}
use Rattle.books.proofs.FormulaLaws.{paid}
use Rattle.books.proofs.formula.FormulaBookBook.cost.Goals as goal

pub returns : goal.returns
returns c =
    let book = c.args.self.now in
    let leg = at book.legs.items c.args.leg in
    let here = c.in_ok-leg.ensures in
    let low : leg.lo ≤ c.args.minutes = rw (← here.1) (omega arith) in
    let high : c.args.minutes ≤ leg.hi = rw (← here.1) (omega arith) in (
      (here.0, low, high),
      paid leg c.args.minutes c.new.result.value (book.timed (c.args.leg - 1)) (book.weighed (c.args.leg - 1)) high (grind (arith, to_z-of_z)),
    )
