use Rattle.std.proofs.Common.{◌+◌, ◌-◌, ◌<◌, subst, ⊎_elim, arith}
use Rattle.std.proofs.lemmas.Bool.{cases_eq}
use Rattle.std.proofs.lemmas.List.{length-set}
use Rattle.optimum.specs.Rotation.{reached, latest}
use Rattle.solver.specs.Plans.{at, settings}
use Rattle.solver.proofs.Markup.{fair_left, fair_set, rises_left, falls_left}
use Rattle.solver.proofs.pricing.carry_left.Goals as goal

pub loop-k-preserved-then-arrivals-k : goal.loop-k-preserved-then-arrivals-k
loop-k-preserved-then-arrivals-k g c =
    let b = g.B.Book.meaning c.args.book.now in
    let order = g.met.B.Cost.Amount.order in
    let s = settings c.args.plan.now in
    let x = at c.args.minutes.now in
    let k = c.loop-k.k - 1 in
    let ps = c.loop-k.prices in
    let r = c.greater.result in
    let inv = c.loop-k.invariant in
    let shuts = rw (c.over-course.ensures.0, c.over-course.ensures.1) at c.window.ensures.1 in
    let loose : reached x k < latest b.legs s k = omega arith in (
      fair_set order b.legs k ps r (omega arith) (fair_left order k _ _ r (inv.0 k (omega arith) (omega arith)) (inv.0 (k + 1) (omega arith) (omega arith)) loose c.greater.ensures) inv.0,
      rises_left order b s x ps k r b.legs (omega arith) (omega arith) (omega arith) inv.1 c.greater.ensures,
      falls_left order b s x ps k r b.legs (omega arith) (λ j low high. inv.2 j (omega arith) high) c.greater.ensures,
      simp length-set inv.3,
    )

pub loop-k-preserved : goal.loop-k-preserved
loop-k-preserved g c =
    let b = g.B.Book.meaning c.args.book.now in
    let s = settings c.args.plan.now in
    let x = at c.args.minutes.now in
    let inv = c.loop-k.invariant in
    let shuts = rw (c.over-course.ensures.0, c.over-course.ensures.1) at c.window.ensures.1 in (
      inv.0,
      inv.1,
      λ j low high loose.
          ⊎_elim
          (λ same. absurd (let h = subst (λ m. reached x m < latest b.legs s m) same loose in omega arith))
          (λ other. inv.2 j (omega arith) high loose)
          (cases_eq j (c.loop-k.k - 1)),
      inv.3,
    )
