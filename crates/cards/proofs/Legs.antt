-- What the rows of shape leave of a leg.
use Rattle.std.proofs.Common.{◌≡◌, ℕ, ◌+◌, ◌-◌, ◌<◌, ◌≤◌, List, length, ℤ, ap, arith}
use Rattle.std.proofs.lemmas.List.{length-take, length-drop}
use Rattle.board.specs.Rules.{Clear}
use Rattle.cards.specs.declared.head.Head.{Head}
use Rattle.cards.specs.Cards.{Leg, head, offset, last_minute_of, costs_of, shape_rules}

module _ (heads : List Head) (cards : List ℤ) (clear : Clear (shape_rules heads cards)) (i : ℕ) (leg : Leg heads i) where
  -- a leg has costs
  pub filled : 0 < (head heads i).count
  filled = grind (arith, clear.1.0 i)

  -- it ends in time
  pub timely : last_minute_of (head heads i) ≤ 4095
  timely = grind (arith, clear.1.0 i)

  -- its cards are there
  covered : offset heads i + (head heads i).count ≤ length cards
  covered = grind (arith, clear.1.0 i)

  -- one for each minute
  pub length_costs : length (costs_of heads cards i) ≡ (head heads i).count
  length_costs = let h = covered in simp (length-take, length-drop) (omega arith)

  -- minutes between its ends have a cost
  pub within : (xs : List ℤ) → xs ≡ costs_of heads cards i → (h : Head) → h ≡ head heads i → (m : ℕ) → h.first ≤ m → m ≤ last_minute_of h → m - h.first < length xs
  within xs e h p m from to = omega (arith, filled, length_costs, ap length e, ap (λ x. x.count) p)
