use Rattle.std.proofs.Common.{ℕ, subst, rules}
use Rattle.std.proofs.lemmas.Iterator.{first_from_Range}
use Rattle.cards.specs.Cards.{SomeLarge, costs_of}
use Rattle.cards.proofs.First.{lowest_leg}
use Rattle.cards.proofs.deck.Shaped.first_large.Goals as goal

pub returns : goal.returns
returns c =
    let deck = c.args.self.now.deck in
    let bad : ℕ → Type 0 = λ i. SomeLarge (costs_of deck.heads.now deck.cards.now i) in
    lowest_leg deck.heads.now bad c.find.result (first_from_Range _ _ _ _ bad (λ i. bad i → ⊥) c.find.ensures.ran (λ x q k. subst bad k.shows (search rules)) (λ x q k. (search rules, subst (λ i. bad i → ⊥) k.shows (search rules))))
