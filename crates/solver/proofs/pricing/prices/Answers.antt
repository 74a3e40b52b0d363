use Rattle.optimum.proofs.Fair.{price_rule}
use Rattle.solver.proofs.pricing.prices.Goals as goal

pub returns : goal.returns
returns g c =
    let after = c.carry_left.ensures in
    price_rule g.met.B.Cost.Amount.order c.keeps_laws.ensures.steps c.requires.fits c.requires.cheapest.timing
    (λ i leg. (after.fair i leg.0 leg.1).named)
    (λ i leg. (after.fair i leg.0 leg.1).safe)
    (λ i leg. (after.fair i leg.0 leg.1).covers)
    after.rises
    after.falls
