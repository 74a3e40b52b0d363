use Rattle.std.proofs.Common.{◌-◌}
use Rattle.amounts.specs.Singles.{single-within, single_ends}
use Rattle.books.specs.Formula.{at}
use Rattle.books.specs.Meaning.{step}
use Rattle.books.proofs.FormulaLaws.{in_range, steps_rise}
use Rattle.books.proofs.formula.FormulaBookBook.keeps_laws.Goals as goal

pub returns : goal.returns
unfolding step
returns c =
    let book = c.args.self.now in
    record {
      shape =
          record {
            few = book.few;
            ordered = λ i p. (book.timed (i - 1)).0;
            short = λ i p. (book.timed (i - 1)).1;
          };
      range = λ i m p.
          let b = in_range (at book.legs.items i) m (book.timed (i - 1)) (book.weighed (i - 1)) p.2 in
          (single-within _ _ b.0 b.1, single_ends _);
      steps = λ i m p low high. steps_rise (at book.legs.items i) m;
    }
