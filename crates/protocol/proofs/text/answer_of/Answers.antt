use Rattle.std.proofs.Common.{◌≡◌, take, ◌∙◌, rules}
use Rattle.std.proofs.lemmas.List.{take_all}
use Rattle.protocol.proofs.text.answer_of.Goals as goal

pub returns-in-Ok-Some : goal.returns-in-Ok-Some
returns-in-Ok-Some c =
    let all : take 64 c.deref.result.now ≡ c.in-Ok-Some.timing.minutes.items = take_all 64 c.deref.result.now c.deref.ensures.1 ∙ c.deref.ensures.0 in
    rw all (search rules)
