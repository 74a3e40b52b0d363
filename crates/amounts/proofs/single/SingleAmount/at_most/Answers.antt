use Rattle.std.proofs.Common.{arith}
use Rattle.std.proofs.lemmas.Int.{ints, clamps}
use Rattle.amounts.specs.Rows.{nearest}
use Rattle.amounts.specs.Singles.{tells_order}
use Rattle.amounts.proofs.single.SingleAmount.at_most.Goals as goal

pub returns : goal.returns
returns g c =
    tells_order _ (nearest c.args.self.value) (nearest c.args.other.value) (λ e. omega (arith, ints, clamps)) (λ e h. omega (arith, ints, clamps))
