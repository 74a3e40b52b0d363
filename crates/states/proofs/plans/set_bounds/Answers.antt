use Rattle.std.proofs.Common.{refl, rules}
use Rattle.solver.proofs.Places.{los_set, his_set}
use Rattle.states.proofs.Settled.{same_settings}
use Rattle.states.proofs.plans.set_bounds.Goals as goal

pub returns : goal.returns
returns c = same_settings _ _ refl (los_set c.args.plan.bounds c.args.leg _ (search rules)) (his_set c.args.plan.bounds c.args.leg _ (search rules)) refl refl
