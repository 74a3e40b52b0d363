use Rattle.std.proofs.Common.{◌+◌, ◌<◌, sym, ap, ◌∙◌, subst, arith}
use Rattle.std.proofs.lemmas.List.{length-take, length-drop}
use Rattle.books.specs.Meaning.{step}
use Rattle.books.specs.declared.Ends.{Ends}
use Rattle.solver.specs.Steps.{edge_of, Before, edge_row}
use Rattle.solver.proofs.Leading.{Found, found_shut, found_open}
use Rattle.solver.proofs.Places.{slice_range_at}
use Rattle.solver.proofs.steps.Front.leader.Goals as goal
use Rattle.solver.proofs.steps.Front.leader.Goals.{then-ends, else-ends}

pub loop-k-preserved : goal.loop-k-preserved
loop-k-preserved g c =
    let order = g.met.B.Cost.Amount.order in
    let b = g.B.Book.meaning c.args.book.now in
    let way = g.W.Way.goes in
    let row = g.B.Cost.Amount.row in
    let es = c.args.self.now.ranges.now in
    let rows = edge_row b way es in
    let k = c.loop-k.k in
    let best = c.loop-k.best in
    let test = simp (length-take, length-drop) at c.loop-k-test.true in
    let here = slice_range_at es c.args.self.now.legs k (record { lo = 0; hi = 0 }) (omega arith) (omega arith) in
    let lo = ap (λ (e : Ends). e.lo) here in
    let hi = ap (λ (e : Ends). e.hi) here in
    elim c.if-ends.branch [
      | then-ends w ↦ subst (Found (Before way g.B.Cost.Amount.le) row rows es (k + 1)) (sym w.best-is)
          (found_open order way row rows es k best w.edge_step-step.result w.better.result c.loop-k.invariant
          (subst (λ (e : Ends). e.lo < e.hi) here w.if-ends.true)
          (w.edge_step-step.ensures ∙ ap (λ (e : Ends). step b (k + 1) (edge_of way e)) here) w.better.ensures)
      | else-ends w ↦ subst (Found (Before way g.B.Cost.Amount.le) row rows es (k + 1)) (sym w.best-is)
          (found_shut order way row rows es k best c.loop-k.invariant (let shut = w.if-ends.false in omega arith))
    ]
