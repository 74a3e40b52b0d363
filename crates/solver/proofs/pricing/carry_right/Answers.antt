use Rattle.std.proofs.Common.{◌≡◌, ℕ, ◌+◌, ◌<◌, ◌≤◌, List, length, sym, subst, ⊎_elim, arith}
use Rattle.std.proofs.lemmas.Bool.{cases_eq}
use Rattle.std.proofs.lemmas.List.{length-set}
use Rattle.optimum.specs.declared.Price.{Price}
use Rattle.optimum.specs.Rotation.{reached, earliest}
use Rattle.solver.specs.Plans.{at, settings}
use Rattle.solver.specs.Pricing.{FairUp, Rises}
use Rattle.solver.proofs.Markup.{fair_right, fair_set, rises_right}
use Rattle.solver.proofs.pricing.carry_right.Goals as goal
use Rattle.solver.proofs.pricing.carry_right.Goals.{then-window-arrivals, else-window-arrivals}

pub loop-k-preserved : goal.loop-k-preserved
loop-k-preserved g c =
    let b = g.B.Book.meaning c.args.book.now in
    let le = g.B.Cost.Amount.le in
    let order = g.met.B.Cost.Amount.order in
    let s = settings c.args.plan.now in
    let x = at c.args.minutes.now in
    let k = c.loop-k.k in
    let ps = c.loop-k.prices in
    let opens = rw (c.over-course.ensures.0, c.over-course.ensures.1) at c.window.ensures.0 in
    let Carried : List Price → Type 0 = λ qs. FairUp b le s x b.legs qs × ((j : ℕ) → 1 ≤ j → j < k + 1 → Rises b le s x qs j) × (length qs ≡ 65) in
    elim c.if-window-arrivals.branch [
      | then-window-arrivals w ↦
          let r = w.greater.result in
          let loose : earliest b.legs s k < reached x k = omega arith in
          let fair = c.loop-k.invariant.0 in
          subst Carried (sym w.prices-is) (
            fair_set order b.legs (k + 1) ps r (omega arith) (fair_right order k _ _ r (fair k (omega arith) (omega arith)) (fair (k + 1) (omega arith) (omega arith)) loose w.greater.ensures) fair,
            rises_right order b s x ps k r (omega arith) c.loop-k.invariant.1 w.greater.ensures,
            simp length-set c.loop-k.invariant.2,
          )
      | else-window-arrivals w ↦
          subst Carried (sym w.prices-is) (
            c.loop-k.invariant.0,
            λ j low high loose.
                ⊎_elim
                (λ same. absurd (let h = subst (λ m. earliest b.legs s m < reached x m) same loose in omega arith))
                (λ other. c.loop-k.invariant.1 j low (omega arith) loose)
                (cases_eq j k),
            c.loop-k.invariant.2,
          )
    ]
