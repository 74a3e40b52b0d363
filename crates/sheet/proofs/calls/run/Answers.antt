use Rattle.sheet.proofs.Running.{one_answer}
use Rattle.sheet.proofs.calls.run.Goals as goal

pub returns-in_err-answers-clause-one : goal.returns-in_err-answers-clause-one
returns-in_err-answers-clause-one g c = one_answer g.met.B.Cost.Amount.order (g.B.Book.meaning c.args.book)
