use Rattle.amounts.specs.JoinedRows.{joined-none}
use Rattle.amounts.proofs.ranked.RankedAmount.zero.Goals as goal

pub returns : goal.returns
returns g c = rw (c.zero.ensures, c.zero-2.ensures) (joined-none _)
