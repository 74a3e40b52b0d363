use Rattle.std.proofs.Common.{arith}
use Rattle.std.proofs.lemmas.Bool.Decides.{nat_tests}
use Rattle.std.proofs.lemmas.List.{get_or_default}
use Rattle.optimum.specs.Rotation.{earliest, latest}
use Rattle.solver.proofs.course.Course.window.Goals as goal

pub returns-then-stop-self : goal.returns-then-stop-self
unfolding earliest latest
returns-then-stop-self c = grind (arith, nat_tests)

pub returns-else-stop-self : goal.returns-else-stop-self
unfolding earliest latest
returns-else-stop-self c = grind (arith, nat_tests, get_or_default)
