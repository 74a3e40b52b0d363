-- When a stop is reached, as the sum of a slice. Assumes nothing.
use Rattle.std.proofs.Common.{◌≡◌, ℕ, zero, suc, ◌+◌, ◌<◌, List, length, get_or, take, drop, refl, ap, ◌∙◌, arith, add-one, length-drop}
use Rattle.std.specs.List.{sum_by}
use Rattle.std.proofs.lemmas.List.{get_or-drop}
use Rattle.std.proofs.lemmas.List.Sums.{sum_by_more}
use Rattle.books.specs.declared.Ends.{Ends}
use Rattle.optimum.specs.Rotation.{reached}
use Rattle.solver.specs.Plans.{range}
use Rattle.solver.specs.Steps.{Direction, end_of}
use Rattle.solver.specs.Narrowing.{moving}

-- the ends that a move moves, of the legs 1 to n
pub reached-sum : (way : Direction) (es : List Ends) (n : ℕ) → n < length es → sum_by (end_of way) (take n (drop 1 es)) ≡ reached (moving way es) n
unfolding reached
reached-sum way es zero within = refl
reached-sum way es (suc k) within =
    let none : Ends = record { lo = 0; hi = 0 } in
    let inside : k < length (drop 1 es) = simp length-drop (omega arith) in
    let sums = rw add-one at (sum_by_more (end_of way) (drop 1 es) k none inside) in
    let before = reached-sum way es k (omega arith) in
    let next : 1 + k ≡ suc k = omega arith in
    let own : end_of way (get_or (drop 1 es) k none) ≡ moving way es (suc k) = ap (end_of way) (get_or-drop 1 es k none ∙ ap (range es) next) in
    omega arith
