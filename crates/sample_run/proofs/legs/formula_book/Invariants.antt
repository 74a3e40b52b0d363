use Rattle.books.specs.Formula.{formulas}
use Rattle.samples.specs.Samples.{leg}
use Rattle.sample_run.specs.Books.{LegsOf}
use Rattle.sample_run.proofs.legs.formula_book.Given as goal

-- the legs so far
abbrev pub invariant-loop : goal.invariant-loop
invariant-loop l = LegsOf (formulas l.book.legs.items) l.counter (leg l.q)
