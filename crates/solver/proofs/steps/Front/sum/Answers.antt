use Rattle.std.proofs.Common.{◌≡◌, ◌+◌, ◌-◌, ◌≤◌, length, take, drop, ap, ◌∙◌, arith, rules, tests}
use Rattle.std.specs.List.{sum_by}
use Rattle.std.proofs.iter.runs.Made.{chains}
use Rattle.std.proofs.lemmas.Iterator.{YieldsList-from_slice}
use Rattle.std.proofs.lemmas.Iterator.Adapters.{fits_from_length, at_most_from_yields_List}
use Rattle.std.proofs.lemmas.List.{length-take, length-drop}
use Rattle.solver.specs.Steps.{end_of}
use Rattle.solver.proofs.Summing.{reached-sum}
use Rattle.solver.proofs.steps.Front.sum.Goals as goal

pub sum-requires-clause-fits : goal.sum-requires-clause-fits
sum-requires-clause-fits g c =
    let es = take (c.args.self.now.legs + 1 - 1) (drop 1 c.args.self.now.ranges.now) in
    let few : length es ≤ 64 = simp (length-take, length-drop) (omega arith) in
    fits_from_length _ _ 64 _ (at_most_from_yields_List (YieldsList-from_slice es (cc)) few) c.map.ensures.closure (omega arith) (λ x r q k. search (rules, tests))

pub returns : goal.returns
returns g c =
    let way = g.W.Way.goes in
    let n = c.args.self.now.legs in
    let es = c.args.self.now.ranges.now in
    let same : n + 1 - 1 ≡ n = omega arith in
    let e : c.sum.result ≡ sum_by (end_of way) (take (n + 1 - 1) (drop 1 es)) = search (rules, chains) in
    e ∙ ap (λ m. sum_by (end_of way) (take m (drop 1 es))) same ∙ reached-sum way es n (omega arith)
