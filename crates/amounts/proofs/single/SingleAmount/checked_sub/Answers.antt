use Rattle.std.proofs.Common.{◌-ℤ◌, arith}
use Rattle.std.proofs.lemmas.Int.{ints, clamps}
use Rattle.amounts.specs.Rows.{nearest}
use Rattle.amounts.specs.Singles.{minus-single, exactly_row}
use Rattle.amounts.proofs.single.SingleAmount.checked_sub.Goals as goal

pub returns : goal.returns
returns g c =
    exactly_row _ _ (nearest c.args.self.value -ℤ nearest c.args.other.value) _ _ c.exactly.ensures (omega (arith, ints, clamps)) (minus-single _ _)
