use Rattle.std.proofs.Common.{min, max, ◌∙◌, ap, arith}
use Rattle.std.proofs.lemmas.List.{length-set}
use Rattle.solver.specs.Plans.{settings}
use Rattle.solver.proofs.Places.{legwise_more}
use Rattle.solver.proofs.Spans.{Clips, clips, clipped_all}
use Rattle.solver.proofs.course.Course.clip.Goals as goal

pub loop-k-preserved : goal.loop-k-preserved
loop-k-preserved c =
    let n = c.args.self.now.legs in
    let s = settings c.args.self.now.plan.now in
    let inv = c.loop-k.invariant in (
      simp length-set inv.0,
      legwise_more (Clips n s) _ c.loop-k.range-items c.loop-k.k c.both.result (omega arith)
          (clips n s c.args.spans.now c.loop-k.k c.both.result (omega arith) c.requires
          (c.both.ensures.0 ∙ ap (max _) c.between.ensures.0)
          (c.both.ensures.1 ∙ ap (min _) c.between.ensures.1))
          inv.1,
    )

pub returns : goal.returns
returns c =
    let n = c.args.self.now.legs in
    let s = settings c.args.self.now.plan.now in
    clipped_all n s _ c.loop-k.range-items _ c.loop-k.invariant.0 (λ i low. c.loop-k.invariant.1 i (omega arith))
