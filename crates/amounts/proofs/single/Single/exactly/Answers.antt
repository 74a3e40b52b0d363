use Rattle.std.proofs.Common.{◌^◌, pos, neg_ℤ, ◌≤ℤ◌, ap, arith, lit<}
use Rattle.std.proofs.lemmas.Int.{ints, clamps}
use Rattle.amounts.specs.Rows.{single}
use Rattle.amounts.specs.Singles.{single-within}
use Rattle.amounts.proofs.single.Single.exactly.Goals as goal

pub returns-then-not-contains : goal.returns-then-not-contains
unfolding single
returns-then-not-contains g c h = let p = h 0 (lit< tt) in grind (arith, ints)

pub returns : goal.returns
returns g c =
    let low : neg_ℤ (pos (2 ^ 47)) ≤ℤ c.args.value = grind (arith, ints) in
    let high : c.args.value ≤ℤ pos (2 ^ 47) = grind (arith, ints) in
    (single-within (2 ^ 47) c.args.value low high, ap single (omega (arith, ints, clamps)))
