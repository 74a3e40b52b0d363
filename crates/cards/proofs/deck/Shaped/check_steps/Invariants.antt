-- The loop over the legs.
use Rattle.std.proofs.Common.{ℕ, ◌+◌, ◌<◌}
use Rattle.cards.specs.Cards.{Falling}
use Rattle.cards.proofs.deck.Shaped.check_steps.Given as goal

-- no leg so far breaks the step law
abbrev pub invariant-loop-k : goal.invariant-loop-k
invariant-loop-k l = (i : ℕ) → i < l.k + 1 → Falling l.self.deck.heads.now l.self.deck.cards.now i → ⊥
