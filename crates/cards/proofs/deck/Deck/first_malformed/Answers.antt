use Rattle.std.proofs.Common.{ℕ, rules}
use Rattle.std.proofs.lemmas.Iterator.{first_from_Range}
use Rattle.cards.specs.Cards.{BadHead}
use Rattle.cards.proofs.First.{lowest_leg}
use Rattle.cards.proofs.deck.Deck.first_malformed.Goals as goal

pub returns : goal.returns
returns c =
    let deck = c.args.self.now in
    let bad : ℕ → Type 0 = λ i. BadHead deck.heads.now deck.cards.now i in
    lowest_leg deck.heads.now bad c.find.result (first_from_Range _ _ _ _ bad (λ i. bad i → ⊥) c.find.ensures.ran (λ x q k. search rules) (λ x q k. search rules))
