use Rattle.std.proofs.Common.{◌≡◌, ℕ, ◌+◌, ◌-◌, ◌<◌, ◌≤◌, List, length, get_or, take, drop, sym, ap, ◌∙◌, subst, arith, rules, tests}
use Rattle.std.proofs.lemmas.Iterator.{cases_from_all, YieldsList-from_slice}
use Rattle.std.proofs.lemmas.List.{get_or-take, get_or-drop, length-take, length-drop}
use Rattle.books.specs.declared.Ends.{Ends}
use Rattle.solver.specs.Plans.{Inside, settings, WindowsFit}
use Rattle.solver.proofs.Tests.{either_way}
use Rattle.solver.proofs.course.Course.windows_fit.Goals as goal

-- the window of stop k + 1 in the slice of the windows before stop n
item : (ws : List Ends) (n k : ℕ) → k < n - 1 → get_or (take (n - 1) (drop 1 ws)) k (record { lo = 0; hi = 4095 }) ≡ get_or ws (k + 1) (record { lo = 0; hi = 4095 })
item ws n k low =
    let next : 1 + k ≡ k + 1 = omega arith in
    get_or-take (n - 1) (drop 1 ws) k _ low ∙ get_or-drop 1 ws k _ ∙ ap (λ j. get_or ws j (record { lo = 0; hi = 4095 })) next

pub returns : goal.returns
returns c =
    let day : Ends = record { lo = 0; hi = 4095 } in
    let n = c.args.self.now.legs in
    let windows = c.args.self.now.plan.now.windows in
    let ws = take (n - 1) (drop 1 windows) in
    let size : length windows ≡ 65 = search rules in
    let long : length ws ≡ n - 1 = simp (length-take, length-drop) (omega arith) in
    let Fit : Ends → Type 0 = λ w. (w.lo ≤ w.hi) × (w.hi ≤ 4095) in
    let All : Type 0 = (k : ℕ) → 1 ≤ k → k < n → WindowsFit (settings c.args.self.now.plan.now) k in
    either_way {C = All} {D = All → ⊥} c.all.result
    (cases_from_all _ _ _ (λ w. Inside w day) (λ w. Inside w day → ⊥) c.all.ensures.ran (YieldsList-from_slice ws (cc)) (λ x q k. search (rules, tests)) (λ x q k. search (rules, tests)))
    (λ all k low high.
    let back : k - 1 + 1 ≡ k = omega arith in
    let own = all (k - 1) day (omega arith) (omega arith) in
    subst Fit (item windows n (k - 1) (omega arith) ∙ ap (λ j. get_or windows j day) back) (own.1, own.2))
    (λ bad all.
    let own = subst Fit (sym (item windows n bad.0 (omega arith))) (all (bad.0 + 1) (omega arith) (omega arith)) in
    bad.2 day (omega arith, own.0, own.1))
