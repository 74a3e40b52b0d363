use Rattle.amounts.specs.JoinedRows.{joined-within, within_first, within_second, minus-joined}
use Rattle.amounts.proofs.ranked.RankedAmount.checked_sub.Goals as goal

pub returns-in-err-first : goal.returns-in-err-first
returns-in-err-first g c =
    simp c.from-residual.ensures
    (λ h. c.in-err-first.ensures (within_first _ _ g.B.Amount.places _ _ (rw minus-joined at h)))

pub returns-in-err-second : goal.returns-in-err-second
returns-in-err-second g c =
    simp c.from-residual-in-err-second.ensures
    (λ h. c.in-err-second.ensures (within_second _ g.A.Amount.places _ _ _ (rw minus-joined at h)))

pub returns : goal.returns
returns g c =
    let p = c.in-ok-first.ensures in
    let q = c.in-ok-second.ensures in
    rw minus-joined (joined-within _ _ _ _ _ p.0 q.0, simp (p.1, q.1))
