use Rattle.std.proofs.Common.{sym, ◌∙◌, subst, ap₂}
use Rattle.std.proofs.lemmas.Option.{MatchOption-at_some}
use Rattle.std.proofs.lemmas.Bool.{some_since}
use Rattle.amounts.specs.Rows.{minus, InRange}
use Rattle.books.specs.Meaning.{step}
use Rattle.optimum.proofs.Sums.{step_range}
use Rattle.solver.proofs.steps.step_from.Goals as goal

pub unwrap-requires : goal.unwrap-requires
unfolding step
unwrap-requires g c =
    let after = MatchOption-at_some _ _ _ c.unwrap-after.ensures c.cost.ensures in
    let before = MatchOption-at_some _ _ _ c.unwrap-before.ensures c.cost-2.ensures in
    let range = step_range (g.B.Book.meaning c.args.book.now) c.keeps_laws.ensures.range c.args.leg c.args.minute before.0 after.0 in
    some_since c.checked_sub.result _ _ c.checked_sub.ensures
    (λ absent. absent (subst (InRange g.B.Cost.Amount.places) (sym (ap₂ minus after.1 before.1)) range))

pub returns : goal.returns
unfolding step
returns g c =
    let after = MatchOption-at_some _ _ _ c.unwrap-after.ensures c.cost.ensures in
    let before = MatchOption-at_some _ _ _ c.unwrap-before.ensures c.cost-2.ensures in
    let less = MatchOption-at_some _ _ _ c.unwrap.ensures c.checked_sub.ensures in
    less.1 ∙ ap₂ minus after.1 before.1
