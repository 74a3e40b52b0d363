-- A book of heads and cards that break no row keeps the laws of books.
use Rattle.std.proofs.Common.{◌≡◌, ℕ, ◌+◌, ◌-◌, ◌^◌, ◌<◌, List, length, get_or, ℤ, pos, ◌-ℤ◌, neg_ℤ, ◌≤ℤ◌, refl, ap, inl, inr, arith, w64, to_z, of_z}
use Rattle.std.proofs.lemmas.Int.{ints, clamps, by_lt_z}
use Rattle.amounts.specs.Rows.{single, minus, nearest}
use Rattle.amounts.specs.Orders.{ByNumber}
use Rattle.amounts.specs.Singles.{single_first, single_ends}
use Rattle.board.specs.Rules.{Clear}
use Rattle.books.specs.Meaning.{Priced, Shaped, Ranged, Convex, step}
use Rattle.cards.specs.declared.head.Head.{Head}
use Rattle.cards.specs.Cards.{head, costs_of, card_at, book_of, shape_rules, cost_rules}
use Rattle.cards.proofs.Legs.{filled, timely, length_costs, within}

module _ (heads : List Head) (cards : List ℤ) (shape : Clear (shape_rules heads cards)) (laws : Clear (cost_rules heads cards)) where
  pub shaped : Shaped (book_of heads cards)
  shaped =
      record {
        few = grind (arith, shape.0);
        ordered = λ i leg. omega (arith, filled heads cards shape i leg);
        short = timely heads cards shape;
      }

  -- minutes between a leg's ends have a card
  pub placed : (i m : ℕ) → Priced (book_of heads cards) i m → m - (head heads i).first < length (costs_of heads cards i)
  placed i m (leg, from, to) = within heads cards shape i leg _ refl _ refl m from to

  -- and it is in range
  pub small : (i m : ℕ) → Priced (book_of heads cards) i m → (neg_ℤ (pos (2 ^ 40)) ≤ℤ card_at heads cards i m) × (card_at heads cards i m ≤ℤ pos (2 ^ 40))
  small i m priced = (
    by_lt_z (card_at heads cards i m) (neg_ℤ (pos (2 ^ 40))) (λ h. absurd (laws.0 i (priced.0, (_, placed i m priced, inl h)))) (λ h. h),
    by_lt_z (pos (2 ^ 40)) (card_at heads cards i m) (λ h. absurd (laws.0 i (priced.0, (_, placed i m priced, inr h)))) (λ h. h),
  )

  pub ranged : Ranged 1 (book_of heads cards)
  ranged i m priced =
      (λ k h. let e : k ≡ 0 = omega arith in rw (e, single_first) (small i m priced), single_ends _)

  pub convex : Convex ByNumber (book_of heads cards)
  unfolding step minus single
  convex i m leg from to =
      let j = m - (head heads i).first in
      let c = costs_of heads cards i in
      let e : m + 1 - (head heads i).first ≡ j + 1 = omega arith in
      let f : m + 1 + 1 - (head heads i).first ≡ j + 2 = omega arith in
      rw (e, f)
      (by_lt_z (get_or c (j + 2) (pos 0) -ℤ get_or c (j + 1) (pos 0)) (get_or c (j + 1) (pos 0) -ℤ get_or c j (pos 0))
      (λ h. absurd (laws.1.0 i (leg, (j, (omega (arith, filled heads cards shape i leg, length_costs heads cards shape i leg), h)))))
      (λ h. h))

  -- an amount made from the card means the card itself
  pub exact : (i m : ℕ) → Priced (book_of heads cards) i m → (c v : ℤ) → c ≡ card_at heads cards i m → v ≡ nearest (to_z w64 (of_z w64 c)) → single (nearest v) ≡ single (card_at heads cards i m)
  exact i m priced c v e f = let s = small i m priced in ap single (omega (arith, ints, clamps, s.0, s.1))
