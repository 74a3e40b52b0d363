use Rattle.std.proofs.Common.{◌+◌, ◌≤◌, min, max, ◌∙◌, ap₂, arith, rules}
use Rattle.std.proofs.lemmas.List.{length-set}
use Rattle.optimum.proofs.Reach.{reach_start}
use Rattle.solver.specs.Plans.{settings}
use Rattle.solver.proofs.Places.{legwise_more}
use Rattle.solver.proofs.Spans.{Spanned, spans_placed, span_more, span_stuck, latest_small}
use Rattle.solver.proofs.course.Course.forward.Goals as goal

pub loop-k-init : goal.loop-k-init
loop-k-init c = (search rules, omega arith, reach_start c.args.self.now.legs (settings c.args.self.now.plan.now), λ i low. absurd (omega arith))

pub returns-then-span : goal.returns-then-span
returns-then-span c =
    let inv = c.loop-k.invariant in
    span_stuck c.args.self.now.legs (settings c.args.self.now.plan.now) c.loop-k.k c.loop-k.span c.both-span.result
    (c.both-span.ensures.0 ∙ ap₂ max c.window-window.ensures.0 c.plus.ensures.0)
    (c.both-span.ensures.1 ∙ ap₂ min c.window-window.ensures.1 c.plus.ensures.1)
    inv.2 c.loop-k.place-items (omega arith) c.if-span.true inv.3

pub loop-k-preserved : goal.loop-k-preserved
loop-k-preserved c =
    let inv = c.loop-k.invariant in
    let n = c.args.self.now.legs in
    let s = settings c.args.self.now.plan.now in
    let k = c.loop-k.k in
    let e = c.both-span.result in
    let small = latest_small n s c.requires (k + 1) (omega arith) (omega arith) in
    let bounded = c.requires.bounds (k + 1) (omega arith) (omega arith) in
    let day : e.hi ≤ 4095 = omega arith in
    let here : Spanned n s (k + 1) e =
    span_more n s k c.loop-k.span e
    (c.both-span.ensures.0 ∙ ap₂ max c.window-window.ensures.0 c.plus.ensures.0)
    (c.both-span.ensures.1 ∙ ap₂ min c.window-window.ensures.1 c.plus.ensures.1)
    inv.2 bounded.0 c.if-span.false in (
      simp length-set inv.0,
      day,
      here,
      legwise_more (Spanned n s) _ c.loop-k.place-items k e (omega arith) here inv.3,
    )

pub returns : goal.returns
returns c = spans_placed c.args.self.now.legs (settings c.args.self.now.plan.now) c.loop-k.place-items _ c.loop-k.invariant.0 (λ i low. c.loop-k.invariant.3 i (omega arith))
