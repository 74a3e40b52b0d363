use Rattle.std.proofs.Common.{rules}
use Rattle.hexadecimal.proofs.Digits.{length-hexed}
use Rattle.frames.proofs.writing.put_hex.Goals as goal

pub unwrap-requires : goal.unwrap-requires
unwrap-requires c = search (rules, length-hexed)
