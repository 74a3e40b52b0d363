-- What a sheet did, put as the register's answer. Assumes nothing.
use Rattle.std.proofs.Common.{◌≡◌, ℕ, Err, refl, inl}
use Rattle.amounts.specs.Rows.{Row}
use Rattle.board.specs.Rules.{Clear, Broken}
use Rattle.board.specs.declared.Refusal.{Refusal}
use Rattle.board.proofs.Boards.{broken_front, broken_back, clear_both}
use Rattle.books.specs.Meaning.{Meaning}
use Rattle.optimum.specs.Rotation.{Cheapest, cost_of_timing}
use Rattle.optimum.proofs.Reach.{keeps_less}
use Rattle.solver.specs.Outcomes.{Solves}
use Rattle.solver.specs.Plans.{Lawful, First}
use Rattle.solver.specs.declared.fault.PlanFault.{PlanFault}
use Rattle.solver.specs.declared.fault.PlanFault.TheVariants.{Stuck, Unlawful}
use Rattle.register.specs.Faults.{row, told, timeless}
use Rattle.register.specs.Register.{Register, standing, after, Times, entry_rows, timing_rows, refused, granted, Answered}
use Rattle.register.specs.declared.areas.Areas.{Areas}
use Rattle.register.specs.declared.call.Call.{Call}

module _ {le : Row → Row → Type 0} (b : Meaning) (r : Register) (call : Call) (areas : Areas) where
  -- a row that is looked at first applies
  pub answered_entry : (why : Refusal) → Broken (entry_rows b r call areas) why → Answered b le r call areas (refused why) r
  answered_entry why broken = record { answer = (broken_front (entry_rows b r call areas) (timing_rows b r call) why broken, refl) }

  -- there is no timing
  pub answered_stuck : (k : ℕ) → Clear (entry_rows b r call areas) → Times call → First b.legs (after b r call) k → Answered b le r call areas (refused (row 16 k)) r
  answered_stuck k clear times first =
      record {
        answer = (
          broken_back (entry_rows b r call areas) (timing_rows b r call) (row 16 k) clear
              (inl (k, (times, first.leg, first.stuck), (λ j less timeless. first.before j less timeless.2), refl)),
          refl,
        );
      }

  -- the solver has none for settings that fit
  pub answered_unsolved : (fault : PlanFault) → Clear (entry_rows b r call areas) → Times call → Lawful b (after b r call) → Solves b le (after b r call) (Err fault) → Answered b le r call areas (refused (told (timeless fault))) r
  answered_unsolved (Stuck k) clear times fit solves = answered_stuck k clear times solves.1
  answered_unsolved Unlawful clear times fit solves = absurd (solves fit)

  -- a cheapest timing stands
  pub answered_granted : (r' : Register) (x : ℕ → ℕ) (cost : Row) → Clear (entry_rows b r call areas) → Times call → Cheapest b le (after b r call) x → cost ≡ cost_of_timing b x → r' ≡ standing (after b r call) → Answered b le r call areas (granted cost) r'
  answered_granted r' x cost clear times cheapest sum stands =
      record {
        answer = (
          clear_both (entry_rows b r call areas) (timing_rows b r call) clear
              ((λ k timeless. timeless.2 x (keeps_less b.legs (after b r call) x k b.legs timeless.1.1 cheapest.timing)), tt),
          times,
          stands,
          (x, cheapest, sum),
        );
      }
