use Rattle.std.proofs.Common.{Ok, length, sym, ap, ◌∙◌, subst, w64, SFits, rules}
use Rattle.std.proofs.lemmas.Int.{to_z-of_z}
use Rattle.amounts.specs.Rows.{joined, single, nearest}
use Rattle.register.specs.Replies as replies
use Rattle.states.specs.States.{lent, Carried}
use Rattle.protocol.specs.Stages.{book, legs_of, NoDearer}
use Rattle.protocol.proofs.Showing.{first_place, second_place, stated}
use Rattle.protocol.proofs.sound.SoundSheet.carry_out.Goals as goal

pub returns-clause-stated : goal.returns-clause-stated
returns-clause-stated c =
    let sheet = c.args.self.now.sheet in
    let b = book (legs_of sheet.book) sheet.book.rates.values in
    let room = lent c.args.minutes.now c.args.amounts.now in
    let kilograms = nearest c.in-Some.cost.first.value in
    let cents = nearest c.in-Some.cost.second.value in
    let carried = subst (λ o. Carried b NoDearer sheet.state c.args.call room (replies.reply (λ a. joined 1 (single (nearest a.first.value)) (single (nearest a.second.value))) (Ok o)) c.call.new.self.state) c.in-Some.is c.in_ok-cost.ensures.carried in
    let heavy : SFits w64 c.value.result = search rules in
    let dear : SFits w64 c.value-2.result = search rules in
    stated b sheet.state c.call.new.self.state c.args.call room (joined 1 (single kilograms) (single cents)) c.args.self.now.sound carried
    c.flown.result.items _ _
    (λ up. c.flown.ensures.legs up ∙ ap (λ k. length k.below.legs.items) c.in_ok-cost.ensures.over) c.flown.ensures.minutes
    (to_z-of_z w64 c.value.result heavy ∙ c.value.ensures ∙ sym (first_place kilograms cents))
    (to_z-of_z w64 c.value-2.result dear ∙ c.value-2.ensures ∙ sym (second_place kilograms cents))
