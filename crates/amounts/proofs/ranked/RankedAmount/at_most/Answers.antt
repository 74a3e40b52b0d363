use Rattle.amounts.specs.JoinedRows.{to_ranked, from_ranked, tells_ranked}
use Rattle.amounts.proofs.ranked.RankedAmount.at_most.Goals as goal

pub returns-then-not-at_most : goal.returns-then-not-at_most
returns-then-not-at_most g c f =
    c.if-not-at_most.ensures (from_ranked g.met.A.Amount.order g.B.Amount.le _ _ _ _ f).0

pub returns-then-not-at_most-2 : goal.returns-then-not-at_most-2
returns-then-not-at_most-2 g c =
    simp c.if-not-at_most-2.true
    (to_ranked g.met.A.Amount.order g.B.Amount.le _ _ _ _ c.if-not-at_most.ensures (λ back. absurd (c.if-not-at_most-2.ensures back)))

pub returns-else-not-at_most-2 : goal.returns-else-not-at_most-2
returns-else-not-at_most-2 g c =
    tells_ranked g.met.A.Amount.order g.B.Amount.le _ _ _ _
    c.at_most-else-not-at_most-2.result
    c.if-not-at_most.ensures
    c.if-not-at_most-2.ensures
    c.at_most-else-not-at_most-2.ensures
