use Rattle.std.proofs.Common.{◌≡◌, ◌*◌, take, drop}
use Rattle.hexadecimal.specs.Hex.{hexed}
use Rattle.hexadecimal.proofs.hex.take_hex.Given as goal

abbrev pub invariant-loop-i : goal.invariant-loop-i
invariant-loop-i l = (take (2 * l.i) l.line ≡ hexed (take l.i l.place)) × (drop l.i l.place ≡ drop l.i l.initial.place)
