use Rattle.std.proofs.Common.{◌≡◌, ◌+◌, ◌-◌, length}
use Rattle.optimum.specs.Method.{Boxed}
use Rattle.solver.specs.Plans.{los, his, settings}
use Rattle.solver.specs.Steps.{AtHand}
use Rattle.solver.specs.Narrowing.{resting, Lacks}
use Rattle.solver.proofs.narrow.settle.Given as goal

abbrev pub invariant-loop : goal.invariant-loop
invariant-loop g l =
    let b = g.B.Book.meaning l.book in
    let way = g.W.Way.goes in
    record {
      places : length l.ranges ≡ 65;
      lacks : Lacks way b.legs (settings l.plan) l.ranges (l.done + 1) (l.lacking - l.counter);
      hand : AtHand g.B.Cost.Amount.row b way l.ranges (l.done + 1) l.steps;
      boxed : Boxed b g.B.Cost.Amount.le (settings l.plan) (los l.ranges) (his l.ranges) l.done;
      rests : resting way l.ranges ≡ resting way l.initial.ranges;
    }
