-- The lowest leg of which something holds, found among the legs from 1 on.
use Rattle.std.proofs.Common.{ℕ, ◌+◌, ◌<◌, ◌≤◌, List, length, Some, None, Option, MatchOption, arith}
use Rattle.cards.specs.declared.head.Head.{Head}
use Rattle.cards.specs.Cards.{Leg, NoneIs, Lowest}

pub lowest_leg :
    (heads : List Head) (is : ℕ → Type 0) (r : Option ℕ) →
    MatchOption r ((k : ℕ) → 1 ≤ k → k < length heads + 1 → is k → ⊥)
    (λ i. (1 ≤ i) × (i < length heads + 1) × is i × ((k : ℕ) → 1 ≤ k → k < i → is k → ⊥)) →
    MatchOption r (NoneIs (λ i. Leg heads i × is i)) (Lowest (λ i. Leg heads i × is i))
lowest_leg heads is None none = λ i bad. none i bad.0.0 (omega (arith, bad.0.1)) bad.1
lowest_leg heads is (Some i) (from, to, here, below) =
    (((from, omega arith), here), λ j less bad. below j bad.0.0 less bad.1)
