-- The settings that an admitted call leaves fit the book. Assumes nothing.
use Rattle.std.proofs.Common.{◌≡◌, ℕ, ◌<◌, ◌≤◌, Some, None, Option, IfSome, ◌≢◌, ◌⊎◌, sym, subst, inl, inr, ⊎_elim, arith}
use native.Mathlib.Decide.{dec_le}
use Rattle.std.proofs.lemmas.Bool.{cases_eq}
use Rattle.board.specs.Rules.{Clear}
use Rattle.books.specs.Meaning.{Meaning, Shaped}
use Rattle.optimum.specs.Rotation.{Settings, put}
use Rattle.optimum.proofs.Sums.{put_same, put_other}
use Rattle.solver.specs.Plans.{Lawful}
use Rattle.register.specs.Register.{Register, blank, standing, opened, with_bounds, with_window, with_total, after, Times, entry_rows}
use Rattle.register.specs.declared.areas.Areas.{Areas}
use Rattle.amounts.specs.Rows.{Row}
use Rattle.states.proofs.Settled.{legwise-leg}
use Rattle.states.specs.States.{register, reading, Settled, Sound}
use Rattle.states.specs.declared.standing.Standing.{Standing}
use Rattle.states.specs.declared.state.State.{State}
use Rattle.register.specs.declared.call.Call.{Call}
use Rattle.register.specs.declared.call.Call.TheVariants.{Open, Bounds, Window, Lift, Total, Close}

-- two numbers at j, after both were put at i
after-put : (P : ℕ → ℕ → Type 0) (f g : ℕ → ℕ) (i v w j : ℕ) → (j ≡ i → P v w) → (j ≢ i → P (f j) (g j)) → P (put f i v j) (put g i w j)
after-put P f g i v w j here there =
    ⊎_elim
    (λ same. subst (λ m. P (put f i v m) (put g i w m)) (sym same) (rw (put_same f i v, put_same g i w) (here same)))
    (λ other. rw (put_other f i v other, put_other g i w other) (there other))
    (cases_eq j i)

module _ (b : Meaning) where
  fits_opened : Shaped b → (total : ℕ) → (b.legs ≡ 0 → ⊥) → (4095 < total → ⊥) → Lawful b (opened b total)
  fits_opened shape total some small =
      record {
        some = omega arith;
        day = omega arith;
        bounds = λ i leg.
            let lo = legwise-leg b.legs b.lo i leg.0 leg.1 in
            let hi = legwise-leg b.legs b.hi i leg.0 leg.1 in
            let order = shape.ordered i leg in
            (omega arith, omega arith, omega arith);
        windows = λ k low high. (omega arith, omega arith);
      }

  module _ (s : Settings) (fit : Lawful b s) where
    fits_bounds : (i c d : ℕ) → (d < c → ⊥) → ((c < b.lo i) ⊎ (b.hi i < d) → ⊥) → Lawful b (with_bounds i c d s)
    fits_bounds i c d order within =
        record {
          some = fit.some;
          day = fit.day;
          bounds = λ j leg.
              after-put (λ v w. (b.lo j ≤ v) × (v ≤ w) × (w ≤ b.hi j)) s.low s.high i c d j
              (λ same.
              let lo : b.lo i ≤ c = elim (dec_le (b.lo i) c) [ yes h ↦ h | no h ↦ absurd (within (inl (omega arith))) ] in
              let hi : d ≤ b.hi i = elim (dec_le d (b.hi i)) [ yes h ↦ h | no h ↦ absurd (within (inr (omega arith))) ] in
              subst (λ m. (b.lo m ≤ c) × (c ≤ d) × (d ≤ b.hi m)) (sym same) (lo, omega arith, hi))
              (λ _. fit.bounds j leg);
          windows = fit.windows;
        }

    fits_window : (k a z : ℕ) → a ≤ z → z ≤ 4095 → Lawful b (with_window k a z s)
    fits_window k a z order small =
        record {
          some = fit.some;
          day = fit.day;
          bounds = fit.bounds;
          windows = λ j low high. after-put (λ v w. (v ≤ w) × (w ≤ 4095)) s.opens s.shuts k a z j (λ _. (order, small)) (λ _. fit.windows j low high);
        }

    fits_total : (total : ℕ) → (4095 < total → ⊥) → Lawful b (with_total total s)
    fits_total total small = record { some = fit.some; day = omega arith; bounds = fit.bounds; windows = fit.windows }

  -- the settings of a register that stands
  abbrev pub Fitting : Register → Type 0
  Fitting blank = Unit {0}
  Fitting (standing s) = Lawful b s

  pub fits_after : Shaped b → (r : Register) (call : Call) (areas : Areas) → Fitting r → Clear (entry_rows b r call areas) → Times call → Lawful b (after b r call)
  fits_after shape blank (Open total) areas fit clear times = fits_opened shape total clear.1.1.0 clear.1.1.1.1.0
  fits_after shape blank (Bounds leg low high) areas fit clear times = absurd (clear.1.0 ((λ none. none), (λ none. none)))
  fits_after shape blank (Window stop low high) areas fit clear times = absurd (clear.1.0 ((λ none. none), (λ none. none)))
  fits_after shape blank (Lift stop) areas fit clear times = absurd (clear.1.0 ((λ none. none), (λ none. none)))
  fits_after shape blank (Total total) areas fit clear times = absurd (clear.1.0 ((λ none. none), (λ none. none)))
  fits_after shape blank Close areas fit clear times = absurd times
  fits_after shape (standing s) (Open total) areas fit clear times = absurd (clear.0 (tt, tt))
  fits_after shape (standing s) (Bounds leg low high) areas fit clear times = fits_bounds s fit leg low high clear.1.1.1.0 clear.1.1.1.1.1.0
  fits_after shape (standing s) (Window stop low high) areas fit clear times =
      fits_window s fit stop low high
      (elim (dec_le low high) [ yes h ↦ h | no h ↦ absurd (clear.1.1.1.0 (omega arith)) ])
      (elim (dec_le high 4095) [ yes h ↦ h | no h ↦ absurd (clear.1.1.1.1.0 (inr (omega arith))) ])
  fits_after shape (standing s) (Lift stop) areas fit clear times = fits_window s fit stop 0 4095 (omega arith) (omega arith)
  fits_after shape (standing s) (Total total) areas fit clear times = fits_total s fit total clear.1.1.1.1.0
  fits_after shape (standing s) Close areas fit clear times = absurd times

-- the register that a sound state is read as
fitting_in : (b : Meaning) (le : Row → Row → Type 0) (o : Option Standing) → IfSome o (Settled b le) → Fitting b (register o)
fitting_in b le None settled = tt
fitting_in b le (Some s) settled = settled.lawful

pub fitting : {b : Meaning} {le : Row → Row → Type 0} {st : State} → Sound b le st → Fitting b (reading st)
fitting {b} {le} {st} sound = fitting_in b le st.standing sound.settled
