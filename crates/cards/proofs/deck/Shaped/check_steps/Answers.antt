-- One more leg that keeps the step law, and all of them.
use Rattle.std.proofs.Common.{arith, below_more}
use Rattle.cards.proofs.deck.Shaped.check_steps.Goals as goal

pub loop-k-preserved : goal.loop-k-preserved
loop-k-preserved c = below_more _ _ c.loop-k.invariant (λ bad. c.in_default.ensures bad.1.0 (rw c.costs.ensures bad.1.1))

pub returns : goal.returns
returns c i bad = c.loop-k.invariant i (omega (arith, bad.0.1)) bad
