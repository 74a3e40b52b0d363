use Rattle.std.proofs.Common.{◌≡◌, ◌≤◌, length}
use Rattle.solver.specs.Plans.{settings}
use Rattle.solver.proofs.Places.{Legwise}
use Rattle.solver.proofs.Spans.{no_span, Spanned}
use Rattle.solver.proofs.course.Course.forward.Given as goal

abbrev pub invariant-loop-k : goal.invariant-loop-k
invariant-loop-k l = let s = settings l.self.plan.now in (length l.place-items ≡ l.self.legs) × (l.span.hi ≤ 4095) × Spanned l.self.legs s l.k l.span × Legwise (Spanned l.self.legs s) no_span l.place-items l.k
