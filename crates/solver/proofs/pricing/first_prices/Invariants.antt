use Rattle.std.proofs.Common.{◌≡◌, length}
use Rattle.solver.specs.Plans.{at, settings}
use Rattle.solver.specs.Pricing.{Fair}
use Rattle.solver.proofs.Places.{Legwise}
use Rattle.solver.proofs.pricing.first_prices.Given as goal

abbrev pub invariant-loop-k : goal.invariant-loop-k
invariant-loop-k g l =
    let b = g.B.Book.meaning l.book in
    (length l.price-items ≡ b.legs) × Legwise (Fair b g.B.Cost.Amount.le (settings l.plan) (at l.minutes)) (record { leg = 0; minute = 0 }) l.price-items l.k
