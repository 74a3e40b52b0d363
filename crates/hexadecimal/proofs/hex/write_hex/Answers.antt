use Rattle.std.proofs.Common.{rules}
use Rattle.hexadecimal.proofs.hex.write_hex.Goals as goal
use Rattle.hexadecimal.proofs.Digits.{length-hexed}

pub returns-then-bytes-place : goal.returns-then-bytes-place
returns-then-bytes-place c = search (rules, length-hexed)
