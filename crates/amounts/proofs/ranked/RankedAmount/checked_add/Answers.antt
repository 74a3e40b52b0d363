use Rattle.amounts.specs.JoinedRows.{joined-within, within_first, within_second, plus-joined}
use Rattle.amounts.proofs.ranked.RankedAmount.checked_add.Goals as goal

pub returns-in_err-first : goal.returns-in_err-first
returns-in_err-first g c =
    simp c.from_residual.ensures
    (λ h. c.in_err-first.ensures (within_first _ _ g.B.Amount.places _ _ (rw plus-joined at h)))

pub returns-in_err-second : goal.returns-in_err-second
returns-in_err-second g c =
    simp c.from_residual-in_err-second.ensures
    (λ h. c.in_err-second.ensures (within_second _ g.A.Amount.places _ _ _ (rw plus-joined at h)))

pub returns : goal.returns
returns g c =
    let p = c.in_ok-first.ensures in
    let q = c.in_ok-second.ensures in
    rw plus-joined (joined-within _ _ _ _ _ p.0 q.0, simp (p.1, q.1))
