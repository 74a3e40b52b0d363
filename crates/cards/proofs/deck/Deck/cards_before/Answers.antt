-- That the counts add up, and how far.
use Rattle.std.proofs.Common.{◌-◌, ◌≤◌, length, take, arith, rules, tests}
use Rattle.std.proofs.lemmas.Iterator.{YieldsList-from_slice}
use Rattle.std.proofs.lemmas.Iterator.Adapters.{fits_from_length, at_most_from_yields_List}
use Rattle.std.proofs.lemmas.List.{length-take}
use Rattle.cards.proofs.deck.Deck.cards_before.Goals as goal

pub sum-requires-clause-fits : goal.sum-requires-clause-fits
sum-requires-clause-fits c =
    let hs = take (c.args.leg - 1) c.args.self.now.heads.now in
    let few : length hs ≤ 64 = simp length-take (omega arith) in
    fits_from_length _ _ 64 _ (at_most_from_yields_List (YieldsList-from_slice hs (cc)) few) c.map.ensures.closure (omega arith) (λ x r q k. search (rules, tests))

pub returns-clause-few : goal.returns-clause-few
returns-clause-few c =
    let hs = take (c.args.leg - 1) c.args.self.now.heads.now in
    let few : length hs ≤ 64 = simp length-take (omega arith) in
    let run = c.sum.ensures.runs tt in
    let small =
    fits_from_length _ _ 64 4194241 (at_most_from_yields_List (YieldsList-from_slice hs (cc)) few) c.map.ensures.closure (omega arith) (λ x r q k. search (rules, tests)) run.0 run.0.seen run.1 in
    omega (arith, run.3)
