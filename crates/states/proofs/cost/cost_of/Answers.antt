use Rattle.std.proofs.Common.{sym, ◌∙◌, subst, arith}
use Rattle.std.proofs.lemmas.Option.{MatchOption-at_none}
use Rattle.amounts.specs.Rows.{InRange}
use Rattle.optimum.specs.Rotation.{spent}
use Rattle.states.proofs.Summing.{spent_next, priced_next, spent_fits}
use Rattle.states.proofs.cost.cost_of.Goals as goal

pub loop-k-init : goal.loop-k-init
unfolding spent
loop-k-init g c = (c.zero-total.ensures, λ i low high. absurd (omega arith))

pub returns-in_err-total : goal.returns-in_err-total
returns-in_err-total g c =
    let b = g.B.Book.meaning c.args.book.now in
    let ms = c.args.minutes.now in
    let cost = c.in_ok-cost.ensures in
    let absent = MatchOption-at_none _ _ c.in_err-total.was c.checked_add.ensures in
    rw c.from_residual-in_err-total.ensures
    (λ all. absent (subst (InRange g.B.Cost.Amount.places) (sym (spent_next b ms c.loop-k.k _ _ c.loop-k.invariant.0 cost.1)) (spent_fits b ms c.loop-k.k c.keeps_laws.ensures.range c.keeps_laws.ensures.shape (omega arith) all)))

pub loop-k-preserved : goal.loop-k-preserved
loop-k-preserved g c =
    let b = g.B.Book.meaning c.args.book.now in
    let ms = c.args.minutes.now in
    let cost = c.in_ok-cost.ensures in
    let sum = c.in_ok-total.ensures in (
      sum.1 ∙ spent_next b ms c.loop-k.k _ _ c.loop-k.invariant.0 cost.1,
      priced_next b ms c.loop-k.k c.loop-k.invariant.1 cost.0,
    )
