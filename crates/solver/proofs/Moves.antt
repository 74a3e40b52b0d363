-- One move of a minute: the steps that the book has, those at hand after it, and what a stop then lacks. Assumes nothing.
use Rattle.std.proofs.Common.{◌≡◌, ℕ, ◌+◌, ◌-◌, ◌<◌, ◌≤◌, List, length, set, slice_index_or, sym, ap, ◌∙◌, subst, subst₂, inl, inr, ⊎_elim, arith}
use Rattle.std.proofs.lemmas.List.{get_or-set_other}
use Rattle.amounts.specs.Rows.{Row}
use Rattle.amounts.specs.Orders.{Order}
use Rattle.books.specs.Meaning.{Meaning, IsLeg, Convex, step}
use Rattle.books.specs.declared.Ends.{Ends}
use Rattle.optimum.specs.Rotation.{Settings, Timing, reached, earliest, latest}
use Rattle.optimum.specs.Method.{Fits, Boxed}
use Rattle.optimum.proofs.Box as box
use Rattle.optimum.proofs.Box.{can_raise, can_lower}
use Rattle.optimum.proofs.Sums.{reached_put_up, reached_put_down}
use Rattle.solver.specs.Plans.{range, los, his}
use Rattle.solver.specs.Steps.{Direction, Up, Down, Stepped, edge_of, edge_row, moved, Steps, AtHand, AtHandBut, Before, NoneOpen, Leads}
use Rattle.solver.specs.Narrowing.{moving, resting, Lacking, Lacks, Settled}
use Rattle.solver.proofs.Places.{los_set, his_set, put_own}

-- the book has the steps of every open leg of a box
pub box_steps : {le : Row → Row → Type 0} {b : Meaning} {s : Settings} (es : List Ends) {k : ℕ} → Fits b s → Boxed b le s (los es) (his es) k → (way : Direction) (m : ℕ) → m ≤ b.legs → Steps b way es m
box_steps {b} es fits boxed Up m few j low high free =
    let leg : IsLeg b j = (low, omega arith) in
    let inside = boxed.inside j leg in
    let ends = fits j leg in
    (leg, omega arith, omega arith)
box_steps {b} es fits boxed Down m few j low high free =
    let leg : IsLeg b j = (low, omega arith) in
    let inside = boxed.inside j leg in
    let ends = fits j leg in
    (leg, omega arith, omega arith)

-- the book has the next step of every leg of a timing that can be longer
pub timing_steps : (b : Meaning) (s : Settings) (x : ℕ → ℕ) (es : List Ends) → los es ≡ x → his es ≡ s.high → Fits b s → Timing b.legs s x → (m : ℕ) → m ≤ b.legs → Steps b Up es m
timing_steps b s x es low-is high-is fits timing m few j low high free =
    let leg : IsLeg b j = (low, omega arith) in
    let inside = timing.bounds j low (omega arith) in
    let ends = fits j leg in
    let l = ap (λ f. f j) low-is in
    let u = ap (λ f. f j) high-is in
    (leg, omega arith, omega arith)

-- what is at hand is still right for every leg that has not moved
pub hand_moved : {A : Type 0} (row : A → Row) (b : Meaning) (way : Direction) (es : List Ends) (e : Ends) (k i : ℕ) (xs : List A) → AtHand row b way es k xs → AtHandBut row b way (set es i e) k i xs
hand_moved row b way es e k i xs hand j low high other free within d =
    let same = get_or-set_other es i j e (record { lo = 0; hi = 0 }) other in
    let Right : Ends → Type 0 = λ r. r.lo < r.hi → row (slice_index_or xs j d) ≡ step b j (edge_of way r) in
    subst Right (sym same) (λ free'. hand j low high free' within d) free

-- where a stop lacks a move, a leg is open
pub can_move : {le : Row → Row → Type 0} {b : Meaning} {s : Settings} (es : List Ends) {k : ℕ} → Boxed b le s (los es) (his es) k → k + 1 ≤ b.legs → (way : Direction) (m : ℕ) → 0 < m → Lacks way b.legs s es (k + 1) m → NoneOpen es (k + 1) → ⊥
can_move es boxed few Up m some lacks none =
    let j = can_raise boxed few (omega arith) in
    none j.0 j.1 j.2 j.3
can_move es boxed few Down m some lacks none =
    ⊎_elim
    (λ enough. absurd (omega arith))
    (λ late. let j = can_lower boxed few (omega arith) in none j.0 j.1 j.2 j.3)
    lacks

-- what is lacking, by the window of stop k and when it is reached
pub lacks_from : (way : Direction) (n : ℕ) (s : Settings) (es : List Ends) (k : ℕ) (w : Ends) (r m m' : ℕ) → w.lo ≡ earliest n s k → w.hi ≡ latest n s k → r ≡ reached (moving way es) k → m' ≡ m → Lacking way s.total w r m → Lacks way n s es k m'
lacks_from Up n s es k w r m m' lo hi at same lacking = omega arith
lacks_from Down n s es k w r m m' lo hi at same lacking = ⊎_elim (λ enough. inl (omega arith, omega arith)) (λ late. inr (omega arith, omega arith)) lacking

-- where a stop lacks nothing, it is settled
pub none_lacks : (b : Meaning) (s : Settings) (es : List Ends) (k : ℕ) (way : Direction) (m : ℕ) → m ≡ 0 → Lacks way b.legs s es k m → Settled way b s es k
none_lacks b s es k Up m none lacks = omega arith
none_lacks b s es k Down m none lacks = ⊎_elim (λ enough. inr enough.0) (λ late. inl (omega arith)) lacks

module _ {places : ℕ} {le : Row → Row → Type 0} {b : Meaning} {s : Settings} (order : Order places le) (convex : Convex le b) (fits : Fits b s) (es : List Ends) {k : ℕ} (boxed : Boxed b le s (los es) (his es) k) (few : k + 1 ≤ b.legs) (i : ℕ) (within : i < length es) where
  -- what holds of the ranges after leg i has moved, where m moves were lacking
  abbrev pub Moved : Direction → ℕ → Ends → Type 0
  Moved way m e = Boxed b le s (los (set es i e)) (his (set es i e)) k × Lacks way b.legs s (set es i e) (k + 1) (m - 1) × (resting way (set es i e) ≡ resting way es) × (e.lo < e.hi → Stepped b i (edge_of way e))

  -- the leg whose step goes before those of the others has moved
  has_moved : (way : Direction) (m : ℕ) → 0 < m → Lacks way b.legs s es (k + 1) m → Leads (Before way le) (edge_row b way es) es (k + 1) i → Moved way m (moved way (range es i))
  has_moved Up m some lacks leads =
      let leg : IsLeg b i = (leads.0, omega arith) in
      let inside = boxed.inside i leg in
      let ends = fits i leg in
      let l = los_set es i (moved Up (range es i)) within in
      let u = his_set es i (moved Up (range es i)) within ∙ put_own (his es) i in
      let up = ap (λ f. reached f (k + 1)) l ∙ reached_put_up (los es) i (k + 1) leads.0 leads.1 in (
        subst₂ (λ f g. Boxed b le s f g k) (sym l) (sym u) (box.raise order convex fits i boxed few (omega arith) leads),
        omega arith,
        u,
        λ free. (leg, omega arith, omega arith),
      )
  has_moved Down m some lacks leads =
      let leg : IsLeg b i = (leads.0, omega arith) in
      let inside = boxed.inside i leg in
      let ends = fits i leg in
      let open' = leads.2 in
      let l = los_set es i (moved Down (range es i)) within ∙ put_own (los es) i in
      let u = his_set es i (moved Down (range es i)) within in
      let all = ap (λ f. reached f (k + 1)) u in
      let down = reached_put_down (his es) i (k + 1) leads.0 leads.1 (omega arith) in (
        subst₂ (λ f g. Boxed b le s f g k) (sym l) (sym u) (box.lower order convex fits i boxed few (⊎_elim (λ enough. absurd (omega arith)) (λ late. omega arith) lacks) leads),
        ⊎_elim (λ enough. absurd (omega arith)) (λ late. inr (late.0, omega arith)) lacks,
        l,
        λ free. (leg, omega arith, omega arith),
      )

  pub moved_on : (way : Direction) (m : ℕ) → 0 < m → Lacks way b.legs s es (k + 1) m → Leads (Before way le) (edge_row b way es) es (k + 1) i → (e : Ends) → e ≡ moved way (range es i) → Moved way m e
  moved_on way m some lacks leads e is = subst (Moved way m) (sym is) (has_moved way m some lacks leads)
