use Rattle.solver.proofs.Markup.{fair_first}
use Rattle.solver.proofs.pricing.first_price.Goals as goal

pub returns : goal.returns
returns g c =
    fair_first g.met.B.Cost.Amount.order c.keeps_laws.ensures.steps c.requires.1.fits c.requires.1.cheapest c.args.leg c.args.base c.greater.result c.requires.0 c.if-minutes-leg.false c.requires.2 c.greater.ensures
