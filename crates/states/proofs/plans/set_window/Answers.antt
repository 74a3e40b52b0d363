use Rattle.std.proofs.Common.{refl, rules}
use Rattle.solver.proofs.Places.{open_from-set, open_to-set}
use Rattle.states.proofs.Settled.{same_settings}
use Rattle.states.proofs.plans.set_window.Goals as goal

pub returns : goal.returns
returns c = same_settings _ _ refl refl refl (open_from-set c.args.plan.windows c.args.stop _ (search rules)) (open_to-set c.args.plan.windows c.args.stop _ (search rules))
