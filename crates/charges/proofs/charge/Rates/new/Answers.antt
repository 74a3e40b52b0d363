use Rattle.std.proofs.Common.{◌-◌, arith}
use Rattle.charges.proofs.ChargeLaws.{all_zero}
use Rattle.charges.proofs.charge.Rates.new.Goals as goal

pub invariant_of-result : goal.invariant_of-result
invariant_of-result c = record { small = λ k. omega (arith, all_zero k) }

pub returns : goal.returns
returns c i = all_zero (i - 1)
