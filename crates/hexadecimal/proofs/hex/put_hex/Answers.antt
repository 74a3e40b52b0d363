use Rattle.std.proofs.Common.{rules}
use Rattle.hexadecimal.proofs.hex.put_hex.Goals as goal
use Rattle.hexadecimal.proofs.Digits.{written_more, length-hexed}
use Rattle.std.proofs.lemmas.List.{take_all}

pub loop-i-preserved : goal.loop-i-preserved
loop-i-preserved c = search (rules, written_more)

pub returns : goal.returns
returns c = record { count = search (rules, length-hexed); after = search (rules, take_all) }
