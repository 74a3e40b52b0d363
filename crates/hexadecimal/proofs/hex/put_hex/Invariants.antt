use Rattle.std.proofs.Common.{◌≡◌, ◌*◌, ◌++◌, take, drop}
use Rattle.hexadecimal.specs.Hex.{hexed}
use Rattle.hexadecimal.proofs.hex.put_hex.Given as goal

abbrev pub invariant-loop-i : goal.invariant-loop-i
invariant-loop-i l = l.place ≡ hexed (take l.i l.bytes) ++ drop (2 * l.i) l.initial.place
