use Rattle.std.proofs.Common.{◌≡◌, ◌+◌, ◌-◌, ◌≤◌, sym, subst, arith, rules}
use Rattle.optimum.specs.Rotation.{reached, earliest, Cheapest}
use Rattle.optimum.proofs.Box as box
use Rattle.optimum.proofs.Box.{finish}
use Rattle.solver.specs.Plans.{los, settings}
use Rattle.solver.proofs.narrow.narrow.Goals as goal

pub loop-done-preserved : goal.loop-done-preserved
loop-done-preserved g c =
    let b = g.B.Book.meaning c.args.book.now in
    let s = settings c.args.plan.now in
    let k = c.loop-done.done + 1 in
    let early = subst (λ f. earliest b.legs s k ≤ reached f k) (sym c.settle-in-loop-done.ensures.rests) c.settle.ensures.settled in
    (search rules, box.settle c.settle-in-loop-done.ensures.boxed early c.settle-in-loop-done.ensures.settled)

pub returns : goal.returns
returns g c =
    let b = g.B.Book.meaning c.args.book.now in
    let s = settings c.args.plan.now in
    let es = c.settle-2.new.ranges in
    let e : c.legs-last.result - 1 + 1 ≡ b.legs = omega arith in
    let cheapest = finish c.settle-2.ensures.boxed (subst (λ k. earliest b.legs s k ≤ reached (los es) k) e c.settle-2.ensures.settled) c.requires.bound.0 in
    subst (Cheapest b g.B.Cost.Amount.le s) (sym c.lows.ensures) cheapest
