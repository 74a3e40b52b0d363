use Rattle.std.proofs.Common.{◌∙◌, subst, w64, SFits, rules}
use Rattle.std.proofs.lemmas.Int.{to_z-of_z}
use Rattle.hexadecimal.specs.Hex.{Puts}
use Rattle.answers.proofs.kinds.Answer.write_digits.Goals as goal

pub returns-in-Timing-clause-digits : goal.returns-in-Timing-clause-digits
returns-in-Timing-clause-digits c =
    let kilograms : SFits w64 c.in-Timing.kilograms = search rules in
    let cents : SFits w64 c.in-Timing.cents = search rules in
    let bytes = simp (to_z-of_z w64 c.in-Timing.kilograms kilograms, to_z-of_z w64 c.in-Timing.cents cents) at c.timing_bytes.ensures.bytes in
    let wrote = c.write_hex-in-Timing in
    rw c.in-Timing.is (subst (λ bs. Puts bs c.args.line.now wrote.result wrote.new.place) (c.deref.ensures.0 ∙ bytes) wrote.ensures)
