use Rattle.charges.proofs.ChargeLaws.{shaped, ranged, convex}
use Rattle.charges.proofs.charge.ChargeBookBook.keeps_laws.Goals as goal

pub returns : goal.returns
returns g c =
    let rates = c.args.self.now.rates in
    let laws = c.keeps_laws.ensures in
    record {
      shape = shaped _ _ rates.values rates.small laws.shape;
      range = ranged _ _ rates.values rates.small laws.shape laws.range;
      steps = convex _ _ rates.values rates.small g.met.B.Cost.Amount.order laws.steps;
    }
