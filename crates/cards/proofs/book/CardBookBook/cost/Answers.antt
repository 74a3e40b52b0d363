-- Minutes between the ends of a leg have a card, and the amount made from it means it.
use Rattle.std.proofs.Common.{◌≡◌, ◌≤◌, get_or, pos, arith}
use Rattle.cards.specs.Cards.{head, last_minute_of, card_at}
use Rattle.cards.proofs.Laws.{exact}
use Rattle.cards.proofs.book.CardBookBook.cost.Goals as goal

pub returns : goal.returns
returns c =
    let book = c.args.self.now in
    let ends = c.in_ok-ends.ensures in
    let leg = head book.shaped.deck.heads.now c.args.leg in
    let low : leg.first ≤ c.args.minutes = rw (← ends.1) (omega arith) in
    let high : c.args.minutes ≤ last_minute_of leg = rw (← ends.2) (omega arith) in
    let card : get_or c.costs.result.now c.from.result (pos 0) ≡ card_at book.shaped.deck.heads.now book.shaped.deck.cards.now c.args.leg c.args.minutes = rw (c.from.ensures, c.costs.ensures, ends.1) in
    ((ends.0, low, high), exact _ _ book.shaped.shaped book.lawful _ _ (ends.0, low, high) _ _ card c.new.ensures)
