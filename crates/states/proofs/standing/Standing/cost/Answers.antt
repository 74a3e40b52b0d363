use Rattle.states.proofs.Summing.{timing_costs}
use Rattle.states.proofs.standing.Standing.cost.Goals as goal

pub returns : goal.returns
returns g c =
    timing_costs g.B.Cost.Amount.row (g.B.Book.meaning c.args.book.now) c.args.self.now.found.minutes c.timing.result.now
    c.timing.ensures.legs c.timing.ensures.minutes c.cost_of.result c.cost_of.ensures
