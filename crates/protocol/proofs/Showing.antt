-- That what a sheet's call is told as is what the register answers.
use Rattle.std.proofs.Common.{◌≡◌, ℕ, ◌+◌, ◌-◌, ◌<◌, List, Some, None, Option, length, get_or, ℤ, sym, refl, ap, ◌∙◌, subst, arith, IfSome}
use Rattle.amounts.specs.Rows.{Row, joined, single}
use Rattle.amounts.specs.JoinedRows.{ranked_order}
use Rattle.amounts.specs.Singles.{by_number_order}
use Rattle.answers.specs.Spelling.{timing}
use Rattle.books.specs.Meaning.{Meaning, IsLeg}
use Rattle.optimum.specs.Rotation.{Settings, Cheapest, cost_of_timing}
use Rattle.optimum.proofs.Certificate.{same_cost}
use Rattle.states.specs.Costs.{flown}
use Rattle.solver.specs.Plans.{settings}
use Rattle.register.specs.Register.{standing, Stands, granted, after}
use Rattle.register.specs.declared.areas.Areas.{Areas}
use Rattle.states.specs.States.{register, reading, minutes_in, minutes_of, Settled, Sound, Carried}
use Rattle.register.specs.declared.call.Call.{Call}
use Rattle.states.specs.declared.standing.Standing.{Standing}
use Rattle.states.specs.declared.state.State.{State}
use Rattle.protocol.specs.Desks.{Stated}
use Rattle.protocol.specs.Stages.{NoDearer, Shown}

-- the two places of an amount of kilograms and cents
pub first_place : (a b : ℤ) → joined 1 (single a) (single b) 0 ≡ a
unfolding joined single
first_place a b = refl

pub second_place : (a b : ℤ) → joined 1 (single a) (single b) 1 ≡ b
unfolding joined single
second_place a b = refl

-- the minutes that stand are cheapest for the settings that the register holds
cheapest_in : (b : Meaning) (s : Settings) (o : Option Standing) → register o ≡ standing s → IfSome o (Settled b NoDearer) → Cheapest b NoDearer s (minutes_in o)
cheapest_in b s None read settled = cc
cheapest_in b s (Some up) read settled = let same : (settings up.plan) ≡ s = cc in subst (λ t. Cheapest b NoDearer t (minutes_in (Some up))) same settled.cheapest

module _ (b : Meaning) (old new : State) (call : Call) (room : Areas) (cost : Row) (sound : Sound b NoDearer old) (carried : Carried b NoDearer old call room (granted cost) new) where
  up : reading new ≡ standing (after b (reading old) call)
  up = (carried.answered sound).answer.2

  cheapest : Cheapest b NoDearer (after b (reading old) call) (minutes_of new)
  cheapest = cheapest_in b (after b (reading old) call) new.standing up (carried.sound sound).settled

  -- the timing that stands costs what the register answers
  priced : (k : ℕ) → k < 2 → cost k ≡ cost_of_timing b (minutes_of new) k
  priced k within =
      let best = (carried.answered sound).answer.3 in
      ap (λ row. row k) best.2 ∙ same_cost (ranked_order by_number_order by_number_order) best.1 cheapest k within

  pub stated : (ms : List ℕ) (kilograms cents : ℤ) → (Stands (reading new) → length ms ≡ b.legs) →
      ((k : ℕ) → k < length ms → get_or ms k 0 ≡ minutes_of new (k + 1)) → kilograms ≡ cost 0 → cents ≡ cost 1 →
      Stated b room old call (λ i. timing ms kilograms cents) new
  stated ms kilograms cents legs each weight charge =
      let all : length ms ≡ b.legs = legs (subst Stands (sym up) tt) in
      let shown : Shown b (after b (reading old) call) ms kilograms cents (minutes_of new) = record {
        cheapest = cheapest;
        legs = all;
        each = λ i leg. at i leg all;
        weight = weight ∙ priced 0 (omega arith);
        charge = charge ∙ priced 1 (omega arith);
      } in
      (granted cost, carried.answered sound, λ i. (after b (reading old) call, ms, kilograms, cents, minutes_of new, up, shown, refl))
    where
      at : (i : ℕ) → IsLeg b i → length ms ≡ b.legs → flown ms i ≡ minutes_of new i
      at i leg all =
          let low : i - 1 < length ms = omega (arith, leg.0, leg.1, all) in
          let back : i - 1 + 1 ≡ i = omega (arith, leg.0) in
          each (i - 1) low ∙ ap (minutes_of new) back
