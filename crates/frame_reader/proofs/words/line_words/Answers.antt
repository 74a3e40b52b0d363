use Rattle.std.proofs.Common.{◌≡◌, Err, string_bytes, ap}
use Rattle.std.proofs.lemmas.Result.{IfOk-weaker}
use Rattle.frames.specs.Faults.{told}
use Rattle.frame_reader.specs.Words.{Says, answer_words}
use Rattle.frame_reader.proofs.words.line_words.Goals as goal

pub returns-in-Err : goal.returns-in-Err
returns-in-Err c =
    let number : c.from-refusal.result.number ≡ (told c.in-Err.fault).number = ap (λ r. r.number) c.from-refusal.ensures in
    IfOk-weaker c.format-in-Err.result (λ words. string_bytes words ≡ answer_words c.args.number (Err c.in-Err.fault))
    (λ words. Says c.args.number c.args.line.now (string_bytes words))
    (λ words is. (Err c.in-Err.fault, c.in-Err.ensures.answer, is))
    (simp number at c.format-in-Err.ensures.ok)
