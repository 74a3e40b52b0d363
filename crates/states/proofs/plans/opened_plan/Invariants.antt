use Rattle.std.proofs.Common.{◌≡◌, length}
use Rattle.solver.proofs.Places.{Legwise}
use Rattle.states.proofs.Settled.{no_ends, ends_of}
use Rattle.states.proofs.plans.opened_plan.Given as goal

abbrev pub invariant-loop-k : goal.invariant-loop-k
invariant-loop-k g l =
    let b = g.B.Book.meaning l.book in
    (length l.place-items ≡ b.legs) × Legwise (λ i e. e ≡ ends_of b i) no_ends l.place-items l.k
