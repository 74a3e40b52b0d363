use Rattle.std.proofs.Common.{◌<◌, length, refl, ◌∙◌, arith}
use Rattle.std.proofs.lemmas.List.{length-set}
use Rattle.solver.specs.Plans.{at, his}
use Rattle.solver.proofs.Places.{los_more, his_set, put_own}
use Rattle.solver.proofs.plan.Plan.above.Goals as goal

pub loop-leg-preserved : goal.loop-leg-preserved
loop-leg-preserved c =
    let inv = c.loop-leg.invariant in
    let es = c.loop-leg.ranges in
    let k = c.loop-leg.leg in
    let within : k < length es = omega arith in (
      simp length-set inv.0,
      his_set es k _ within ∙ put_own (his es) k ∙ inv.1,
      los_more es k _ within (at c.args.minutes.now) refl inv.2,
    )
