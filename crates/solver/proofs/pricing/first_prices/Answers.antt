use Rattle.std.proofs.Common.{arith}
use Rattle.std.proofs.lemmas.List.{length-set}
use Rattle.solver.specs.Plans.{at, settings}
use Rattle.solver.specs.Pricing.{Fair}
use Rattle.solver.proofs.Places.{legwise_more, legwise_placed}
use Rattle.solver.proofs.pricing.first_prices.Goals as goal

pub loop-k-preserved : goal.loop-k-preserved
loop-k-preserved g c =
    let b = g.B.Book.meaning c.args.book.now in (
      simp length-set c.loop-k.invariant.0,
      legwise_more (Fair b g.B.Cost.Amount.le (settings c.args.plan.now) (at c.args.minutes.now)) _ c.loop-k.price-items c.loop-k.k c.first_price.result (omega arith) c.first_price.ensures c.loop-k.invariant.1,
    )

pub returns : goal.returns
returns g c =
    let b = g.B.Book.meaning c.args.book.now in
    legwise_placed (Fair b g.B.Cost.Amount.le (settings c.args.plan.now) (at c.args.minutes.now)) _ c.args.base c.loop-k.price-items _ b.legs c.loop-k.invariant.0 (λ i low. c.loop-k.invariant.1 i (omega arith))
