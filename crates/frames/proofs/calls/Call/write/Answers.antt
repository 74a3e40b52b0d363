use Rattle.std.proofs.Common.{w32, SFits, rules}
use Rattle.std.proofs.lemmas.Int.{to_z-of_z}
use Rattle.frames.proofs.calls.Call.write.Goals as goal

pub returns-in-AddLeg-clause-after : goal.returns-in-AddLeg-clause-after
returns-in-AddLeg-clause-after c =
    let signed : SFits w32 c.in-AddLeg.r = search rules in
    let words = simp (
      c.to_be_bytes-in-AddLeg.ensures,
      c.to_be_bytes-in-AddLeg-2.ensures,
      c.to_be_bytes-in-AddLeg-3.ensures,
      c.to_be_bytes-in-AddLeg-4.ensures,
      c.to_be_bytes-in-AddLeg-5.ensures,
      to_z-of_z w32 c.in-AddLeg.r signed,
    )
    at c.put_hex-in-AddLeg.ensures.after in
    rw c.in-AddLeg.is words
