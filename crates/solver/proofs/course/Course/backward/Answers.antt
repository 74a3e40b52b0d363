use Rattle.std.proofs.Common.{min, max, ◌∙◌, ap, arith}
use Rattle.std.proofs.lemmas.List.{length-set}
use Rattle.solver.specs.Plans.{settings}
use Rattle.solver.proofs.Spans.{spans_back}
use Rattle.solver.proofs.course.Course.backward.Goals as goal

pub loop-k-preserved : goal.loop-k-preserved
loop-k-preserved c =
    let inv = c.loop-k.invariant in
    let es = c.loop-k.spans in (
      simp length-set inv.0,
      spans_back c.args.self.now.legs (settings c.args.self.now.plan.now) es _ c.both.result (omega arith) (omega arith)
          (c.both.ensures.0 ∙ ap (max _) c.between.ensures.0)
          (c.both.ensures.1 ∙ ap (min _) c.between.ensures.1) inv.1,
    )
