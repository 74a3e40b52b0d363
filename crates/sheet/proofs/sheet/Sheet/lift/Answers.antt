use Rattle.states.proofs.Lifting.{lift_opens}
use Rattle.sheet.proofs.sheet.Sheet.lift.Goals as goal

pub returns-clause-stays : goal.returns-clause-stays
returns-clause-stays g c = λ sound. lift_opens g.B.Cost.Amount.row (g.B.Book.meaning c.args.self.now.book) c.args.self.now.state c.args.stop _ _ c.timed.result sound (c.timed.ensures.carried.answered sound)
