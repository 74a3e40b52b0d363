use Rattle.std.proofs.Common.{◌≡◌, ◌+◌, ◌*◌, [], ◌∷◌, length, take}
use Rattle.arrayvec.specs.ArrayVec.{array_vec_len}
use Rattle.answers.specs.Spelling.{words}
use Rattle.answers.proofs.encoding.timing_bytes.Given as goal

-- the kind, the number of legs, and the minutes so far, two bytes each
abbrev pub invariant-loop-minute : goal.invariant-loop-minute
invariant-loop-minute l =
    (array_vec_len l.bytes ≡ 2 + 2 * l.minute-index) × (l.bytes.items ≡ 0x81 ∷ length l.flown ∷ words (take l.minute-index l.flown) [])
