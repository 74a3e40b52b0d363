use Rattle.std.proofs.Common.{◌≡◌, length}
use Rattle.optimum.specs.Method.{Between}
use Rattle.solver.specs.Plans.{los, his, settings}
use Rattle.solver.proofs.course.Course.backward.Given as goal

abbrev pub invariant-loop-k : goal.invariant-loop-k
invariant-loop-k l = (length l.spans ≡ 65) × Between l.self.legs (settings l.self.plan.now) (los l.spans) (his l.spans)
