use Rattle.std.proofs.Common.{◌≡◌, ◌++◌, map, take, drop}
use Rattle.std.specs.Int.{w16, from_be_bytes}
use Rattle.answers.proofs.decoding.take_minutes.Given as goal

-- the minutes so far are read, and the rest of the place is as it was
abbrev pub invariant-loop-i : goal.invariant-loop-i
invariant-loop-i l = l.minutes ≡ map (from_be_bytes w16) (take l.i l.pairs) ++ drop l.i l.initial.minutes
