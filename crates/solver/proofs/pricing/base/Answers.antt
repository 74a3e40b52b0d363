use Rattle.std.proofs.Common.{subst, arith}
use Rattle.solver.specs.Plans.{at, settings}
use Rattle.solver.specs.Steps.{Up, Before, edge_row, NoneOpen, Leads}
use Rattle.solver.proofs.Moves.{timing_steps}
use Rattle.solver.proofs.Markup.{floor_least, floor_none}
use Rattle.solver.proofs.pricing.base.Goals as goal

pub gather-requires : goal.gather-requires
gather-requires g c =
    timing_steps (g.B.Book.meaning c.args.book.now) (settings c.args.plan.now) (at c.args.minutes.now) c.above.result c.above.ensures.0 c.above.ensures.1 c.requires.fits c.requires.cheapest.timing _ (omega arith)

pub leader-requires : goal.leader-requires
leader-requires g c = (
  timing_steps (g.B.Book.meaning c.args.book.now) (settings c.args.plan.now) (at c.args.minutes.now) c.above.result c.above.ensures.0 c.above.ensures.1 c.requires.fits c.requires.cheapest.timing _ (omega arith),
  c.gather.ensures,
)

pub returns : goal.returns
returns g c =
    let b = g.B.Book.meaning c.args.book.now in
    let es = c.above.result in
    floor_least g.met.B.Cost.Amount.order es _ c.above.ensures.0 c.above.ensures.1 c.requires.fits c.requires.cheapest
    (subst (λ n. Leads (Before Up g.B.Cost.Amount.le) (edge_row b Up es) es n c.in-Some.leg) c.legs.ensures c.in-Some.ensures)

pub returns-in_default : goal.returns-in_default
returns-in_default g c =
    let es = c.above.result in
    floor_none g.met.B.Cost.Amount.order es c.above.ensures.0 c.above.ensures.1 (subst (NoneOpen es) c.legs.ensures c.in_default.ensures)
