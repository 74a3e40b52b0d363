use Rattle.std.proofs.Common.{◌≡◌, ℕ, ◌+◌, ◌≤◌, zero, suc, List, ◌∷◌, ◌++◌, length, get_or, refl, arith, rules}
use Rattle.std.proofs.lemmas.List.{length-set}
use Rattle.optimum.specs.Rotation.{reached}
use Rattle.optimum.proofs.Sums.{reached_more}
use Rattle.solver.specs.Plans.{at}
use Rattle.solver.proofs.Places.{Legwise, legwise_more, legwise_placed}
use Rattle.solver.proofs.course.Course.arrivals.Goals as goal

none_reached : (x : ℕ → ℕ) → 0 ≡ reached x 0
unfolding reached
none_reached x = refl

-- from the start on
every : (x : ℕ → ℕ) (rs rest : List ℕ) (n : ℕ) → length rs ≡ n → Legwise (λ i v. v ≡ reached x i) 0 rs n → (k : ℕ) → k ≤ n → get_or (0 ∷ (rs ++ rest)) k 0 ≡ reached x k
every x rs rest n long each zero high = none_reached x
every x rs rest n long each (suc k) high = legwise_placed (λ i v. v ≡ reached x i) 0 0 rs rest n long each (suc k) (omega arith) high

pub loop-k-init : goal.loop-k-init
loop-k-init c = (search rules, none_reached _, omega arith, λ i low. absurd (omega arith))

pub loop-k-preserved : goal.loop-k-preserved
loop-k-preserved c =
    let inv = c.loop-k.invariant in
    let x = at c.args.minutes.now in
    let more = reached_more x c.loop-k.k in
    let own : c.loop-k.total + x (c.loop-k.k + 1) ≡ reached x (c.loop-k.k + 1) = omega arith in (
      simp length-set inv.0,
      own,
      omega arith,
      legwise_more (λ i v. v ≡ reached x i) 0 c.loop-k.arrival-items c.loop-k.k _ (omega arith) own inv.3,
    )

pub returns : goal.returns
returns c = every _ c.loop-k.arrival-items _ c.args.self.now.legs c.loop-k.invariant.0 (λ i low. c.loop-k.invariant.3 i (omega arith))
