use Rattle.std.proofs.Common.{◌≢◌, ◌<◌, length, below_more, arith, rules}
use Rattle.std.proofs.lemmas.List.{length-set, get_or-set_same, get_or-set_other}
use Rattle.solver.proofs.Places.{los_are}
use Rattle.solver.proofs.narrow.lows.Goals as goal

pub loop-leg-preserved : goal.loop-leg-preserved
loop-leg-preserved c =
    let inv = c.loop-leg.invariant in
    let k = c.loop-leg.leg in
    let within : k < length c.loop-leg.low-items = omega arith in (
      simp length-set inv.0,
      below_more _ k
          (λ j low. let other : j ≢ k = omega arith in rw get_or-set_other (inv.1 j low))
          (rw get_or-set_same (search rules)),
    )

pub returns : goal.returns
returns c =
    los_are c.args.ranges.now c.loop-leg.low-items (omega arith) (λ k less. c.loop-leg.invariant.1 k (omega arith))
