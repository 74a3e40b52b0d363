use Rattle.std.proofs.Common.{◌≡◌, ◌+◌, ◌-◌, ◌<◌, length, set, refl, ◌∙◌, subst, arith}
use Rattle.std.proofs.lemmas.List.{length-set, get_or-set_same}
use Rattle.solver.specs.Plans.{settings}
use Rattle.solver.specs.Narrowing.{Lacks}
use Rattle.solver.proofs.Moves.{box_steps, hand_moved, can_move, lacks_from, none_lacks, moved_on}
use Rattle.solver.proofs.narrow.settle.Goals as goal

pub returns-then-lacking-eq0-clause-settled : goal.returns-then-lacking-eq0-clause-settled
returns-then-lacking-eq0-clause-settled g c =
    let b = g.B.Book.meaning c.args.book.now in
    let s = settings c.args.plan.now in
    let way = g.W.Way.goes in
    let es = c.args.ranges.now in
    let k = c.args.done + 1 in
    let window = rw (c.over.ensures.0, c.over.ensures.1) at c.window-window.ensures in
    let lacks = lacks_from way b.legs s es k c.window-window.result c.sum.result _ _ window.0 window.1 c.sum.ensures refl c.lacking-lacking.ensures in
    none_lacks b s es k way _ c.if-lacking-eq0.true lacks

pub gather-requires : goal.gather-requires
gather-requires g c = box_steps c.args.ranges.now c.requires.fits.0 c.requires.fits.1 g.W.Way.goes _ c.requires.done_bound

pub choose-leg-requires-clause-open : goal.choose-leg-requires-clause-open
choose-leg-requires-clause-open g c =
    let inv = c.loop.invariant in
    can_move c.loop.ranges inv.boxed c.requires.done_bound g.W.Way.goes _ (omega arith) inv.lacks

pub choose-leg-requires-clause-steps : goal.choose-leg-requires-clause-steps
choose-leg-requires-clause-steps g c =
    let inv = c.loop.invariant in
    (box_steps c.loop.ranges c.requires.fits.0 inv.boxed g.W.Way.goes _ c.requires.done_bound, inv.hand)

pub refresh-requires : goal.refresh-requires
refresh-requires g c =
    let few = c.keeps_laws.ensures.shape.few in
    let bound = c.requires.done_bound in
    let inv = c.loop.invariant in
    let es = c.loop.ranges in
    let i = c.choose-leg.result in
    let leads = c.choose-leg.ensures in
    let within : i < length es = omega arith in
    (moved_on g.met.B.Cost.Amount.order c.keeps_laws.ensures.steps c.requires.fits.0 es inv.boxed bound i within g.W.Way.goes _ (omega arith) inv.lacks leads c.moved-ends.result c.moved-ends.ensures).3

pub loop-preserved : goal.loop-preserved
loop-preserved g c =
    let b = g.B.Book.meaning c.args.book.now in
    let s = settings c.args.plan.now in
    let few = c.keeps_laws.ensures.shape.few in
    let bound = c.requires.done_bound in
    let inv = c.loop.invariant in
    let es = c.loop.ranges in
    let i = c.choose-leg.result in
    let leads = c.choose-leg.ensures in
    let way = g.W.Way.goes in
    let within : i < length es = omega arith in
    let on = moved_on g.met.B.Cost.Amount.order c.keeps_laws.ensures.steps c.requires.fits.0 es inv.boxed bound i within way _ (omega arith) inv.lacks leads c.moved-ends.result c.moved-ends.ensures in
    let fewer : c.lacking-lacking.result - c.loop.counter - 1 ≡ c.lacking-lacking.result - (c.loop.counter + 1) = omega arith in
    record {
      places = simp length-set inv.places;
      lacks = subst (Lacks way b.legs s _ (c.args.done + 1)) fewer on.1;
      hand = c.refresh.ensures (set es i c.moved-ends.result) (c.args.done + 1) (get_or-set_same es i c.moved-ends.result (record { lo = 0; hi = 0 }) within) (hand_moved g.B.Cost.Amount.row b way es c.moved-ends.result (c.args.done + 1) i c.loop.steps inv.hand);
      boxed = on.0;
      rests = on.2 ∙ inv.rests;
    }

pub returns-clause-settled : goal.returns-clause-settled
returns-clause-settled g c =
    let done : c.lacking-lacking.result - c.loop.counter ≡ 0 = omega arith in
    none_lacks (g.B.Book.meaning c.args.book.now) (settings c.args.plan.now) c.loop.ranges (c.args.done + 1) g.W.Way.goes _ done c.loop.invariant.lacks
