use Rattle.std.proofs.Common.{arith}
use Rattle.optimum.proofs.Box.{boxed_start}
use Rattle.optimum.proofs.Reach.{reach_timing}
use Rattle.solver.proofs.solve.Goals as goal

pub narrow-minutes-requires-clause-boxed : goal.narrow-minutes-requires-clause-boxed
narrow-minutes-requires-clause-boxed g c =
    let course = c.over-course.ensures in
    let clipped = rw (course.0, course.1) at c.clip.ensures in
    let reached = rw (course.0, course.1) at c.in_ok-forward.ensures in
    let timing = reach_timing (reached (g.B.Book.meaning c.args.book.now).legs (omega arith)) in
    boxed_start g.met.B.Cost.Amount.order (λ i leg. clipped.bounds i leg.0 leg.1) timing clipped.timings
