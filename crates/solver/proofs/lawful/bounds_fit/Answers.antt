use Rattle.std.proofs.Common.{◌≡◌, ℕ, ◌+◌, ◌-◌, get_or, ◌∙◌, subst, arith, rules, tests}
use Rattle.std.specs.List.{range_with_len}
use Rattle.std.proofs.lemmas.Iterator.{cases_from_all, YieldsList-from_range}
use Rattle.std.proofs.lemmas.List.FromFn.{get_or-range_with_len, length-range_with_len}
use Rattle.books.specs.Meaning.{IsLeg}
use Rattle.solver.specs.Plans.{settings, BoundsFit}
use Rattle.solver.proofs.Tests.{either_way}
use Rattle.solver.proofs.lawful.bounds_fit.Goals as goal

pub returns : goal.returns
returns g c =
    let b = g.B.Book.meaning c.args.book.now in
    let s = settings c.args.plan.now in
    let n = c.legs.result in
    let long = length-range_with_len 1 n in
    let legs = c.legs.ensures in
    let All : Type 0 = (i : ℕ) → IsLeg b i → BoundsFit b s i in
    either_way {C = All} {D = All → ⊥} c.all.result
    (cases_from_all _ _ _ (BoundsFit b s) (λ i. IsLeg b i → BoundsFit b s i → ⊥) c.all.ensures.ran (YieldsList-from_range 1 (n + 1) n (cc) (omega arith)) (λ x q k. search (rules, tests)) (λ x q k. search (rules, tests)))
    (λ all i leg.
    let back : 1 + (i - 1) ≡ i = omega arith in
    subst (BoundsFit b s) (get_or-range_with_len 1 n (i - 1) 0 (omega arith) ∙ back) (all (i - 1) 0 (omega arith) (omega arith)))
    (λ bad all.
    let place = get_or-range_with_len 1 n bad.0 0 (omega arith) in
    let leg : IsLeg b (get_or (range_with_len 1 n) bad.0 0) = (omega arith, omega arith) in
    bad.2 0 leg (all _ leg))
