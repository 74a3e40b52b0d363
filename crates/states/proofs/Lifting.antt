-- A lift leaves the timing that stands. Assumes nothing.
use Rattle.std.proofs.Common.{◌≡◌, ℕ, ◌≤◌, Some, None, Option, IfSome, IfErr, Ok, Err, Result, sym, ap, ◌∙◌, ⊎_elim, arith}
use Rattle.std.proofs.lemmas.Bool.Decides.{nat_tests}
use Rattle.amounts.specs.Rows.{Row}
use Rattle.board.specs.Rules.{Clear, Broken}
use Rattle.board.specs.declared.Refusal.{Refusal}
use Rattle.board.proofs.Boards.{broken_split}
use Rattle.books.specs.Meaning.{Meaning}
use Rattle.optimum.specs.Rotation.{Settings, put, reached, earliest, latest, Timing}
use Rattle.optimum.proofs.Reach.{keeps_less, latest_last}
use Rattle.optimum.proofs.Sums.{reached_onward}
use Rattle.solver.specs.Plans.{at, settings}
use Rattle.register.specs.Faults.{row, told}
use Rattle.register.specs.Register.{Register, with_window, entry_rows, timing_rows, Timeless, Answered}
use Rattle.register.specs.declared.areas.Areas.{Areas}
use Rattle.register.specs.Replies.{timed}
use Rattle.states.specs.States.{register, reading, Settled, Sound}
use Rattle.register.specs.declared.call.Call.TheVariants.{Lift}
use Rattle.register.specs.declared.fault.SheetFault.{SheetFault}
use Rattle.states.specs.declared.standing.Standing.{Standing}
use Rattle.states.specs.declared.state.State.{State}

-- a lifted window is wider
earliest_lifted : (n : ℕ) (s : Settings) (k j v : ℕ) → earliest n s j ≤ v → earliest n (with_window k 0 4095 s) j ≤ v
unfolding earliest put
earliest_lifted n s k j v kept = grind (arith, nat_tests)

latest_lifted : (n : ℕ) (s : Settings) (k j v : ℕ) → v ≤ latest n s j → v ≤ 4095 → v ≤ latest n (with_window k 0 4095 s) j
unfolding latest put
latest_lifted n s k j v kept small = grind (arith, nat_tests)

lifted : (n : ℕ) (s : Settings) (x : ℕ → ℕ) (k : ℕ) → s.total ≤ 4095 → Timing n s x → Timing n (with_window k 0 4095 s) x
lifted n s x k day timing =
    record {
      bounds = timing.bounds;
      windows = λ j low high.
          let kept = timing.windows j low high in
          let last = timing.windows n (omega arith) (omega arith) in
          let later = reached_onward x j n high in
          (earliest_lifted n s k j (reached x j) kept.0, latest_lifted n s k j (reached x j) kept.1 (omega (arith, latest_last n s)));
    }

-- on a sheet that stands, no leg is left without minutes by a lift
lift_free : (b : Meaning) (le : Row → Row → Type 0) (o : Option Standing) (k : ℕ) (areas : Areas) → IfSome o (Settled b le) → Clear (entry_rows b (register o) (Lift k) areas) → (j : ℕ) → Timeless b (register o) (Lift k) j → ⊥
lift_free b le None k areas settled clear j timeless = clear.1.0 ((λ none. none), (λ none. none))
lift_free b le (Some s) k areas settled clear j timeless =
    let wide = with_window k 0 4095 (settings s.plan) in
    let x = at s.found.minutes in
    timeless.2 x (keeps_less b.legs wide x j b.legs timeless.1.1 (lifted b.legs (settings s.plan) x k settled.lawful.day settled.cheapest.timing))

-- no row that is looked at first has the number 16
module _ (why : Refusal) (sixteen : why.number ≡ 16) where
  other_row : {bad : Type 0} (n leg : ℕ) → (n ≡ 16 → ⊥) → bad × (why ≡ row n leg) → ⊥
  other_row n leg other told = other (sym (ap (λ r. r.number) told.1) ∙ sixteen)

  entry_number : (b : Meaning) (r : Register) (k : ℕ) (areas : Areas) → Broken (entry_rows b r (Lift k) areas) why → ⊥
  entry_number b r k areas =
      ⊎_elim (other_row 9 k (λ e. omega arith)) (λ past9. ⊎_elim (other_row 10 k (λ e. omega arith)) (λ past10. ⊎_elim (other_row 11 k (λ e. omega arith)) (λ past11. ⊎_elim (other_row 12 k (λ e. omega arith)) (λ past12. ⊎_elim (other_row 13 k (λ e. omega arith)) (λ past13. ⊎_elim (other_row 14 k (λ e. omega arith)) (λ past14. ⊎_elim (other_row 15 k (λ e. omega arith)) (λ past15. past15.1) past14.1) past13.1) past12.1) past11.1) past10.1) past9.1)

-- the result of a lift on a sound sheet
pub lift_opens : {A : Type 0} (row : A → Row) {le : Row → Row → Type 0} (b : Meaning) (st : State) (k : ℕ) (areas : Areas) (r' : Register) (r : Result A SheetFault) → Sound b le st → Answered b le (reading st) (Lift k) areas (timed row r) r' → IfErr r (λ f. (told f).number ≡ 16 → ⊥)
lift_opens row b st k areas r' (Ok cost) sound answered = tt
lift_opens row b st k areas r' (Err f) sound answered =
    λ sixteen.
    ⊎_elim
    (entry_number (told f) sixteen b (reading st) k areas)
    (λ behind.
    ⊎_elim
    (λ stuck. lift_free b _ st.standing k areas sound.settled behind.0 stuck.0 stuck.1)
    (λ past. past.1)
    behind.1)
    (broken_split (entry_rows b (reading st) (Lift k) areas) (timing_rows b (reading st) (Lift k)) (told f) answered.answer.0)
