-- An array as a function from the numbers of legs. Assumes nothing.
use Rattle.std.proofs.Common.{◌≡◌, ℕ, ◌+◌, ◌-◌, ◌<◌, ◌≤◌, ◌≢◌, zero, suc, List, ◌∷◌, ◌++◌, length, get_or, set, take, drop, add-one, below_more, sym, ap, ◌∙◌, subst, ⊎_elim, arith}
use mathlib.Core.Path.{fun_ext}
use Rattle.std.proofs.lemmas.Bool.{cases_eq, cases_lt}
use Rattle.std.proofs.lemmas.List.{get_or-set_same, get_or-set_other, get_or_past, get_or-take, get_or-drop, get_or_default, get_or_append_left}
use Rattle.books.specs.declared.Ends.{Ends}
use Rattle.optimum.specs.Rotation.{put}
use Rattle.optimum.proofs.Sums.{put_same, put_other}
use Rattle.solver.specs.Plans.{at, range, los, his, open_from, open_to}

-- what stands at j in an array of ranges after a write at i
pub after-set : (P : ℕ → ℕ → Type 0) (es : List Ends) (i : ℕ) (e : Ends) (j : ℕ) → i < length es → (j ≡ i → P e.lo e.hi) → (j ≢ i → P (los es j) (his es j)) → P (los (set es i e) j) (his (set es i e) j)
after-set P es i e j within here there =
    let none : Ends = record { lo = 0; hi = 0 } in
    let Q : Ends → Type 0 = λ r. P r.lo r.hi in
    ⊎_elim
    (λ same. subst (λ m. Q (get_or (set es i e) m none)) (sym same) (subst Q (sym (get_or-set_same es i e none within)) (here same)))
    (λ other. subst Q (sym (get_or-set_other es i j e none other)) (there other))
    (cases_eq j i)

-- what holds of the elements of the first k legs, which stand one place earlier than their numbers
abbrev pub Legwise : {A : Type 0} → (ℕ → A → Type 0) → A → List A → ℕ → Type 0
Legwise P d xs k = (i : ℕ) → i < k → P (i + 1) (get_or xs i d)

module _ {A : Type 0} (P : ℕ → A → Type 0) (d : A) where
  -- one leg more
  pub legwise_more : (xs : List A) (k : ℕ) (v : A) → k < length xs → P (k + 1) v → Legwise P d xs k → Legwise P d (set xs k v) (k + 1)
  legwise_more xs k v within own before =
      below_more _ k
      (λ i low. let other : i ≢ k = omega arith in subst (P (i + 1)) (sym (get_or-set_other xs k i v d other)) (before i low))
      (subst (P (k + 1)) (sym (get_or-set_same xs k v d within)) own)

  -- the elements of the legs 1 to n at their places in an array, behind that of no leg
  pub legwise_placed : (none : A) (xs rest : List A) (n : ℕ) → length xs ≡ n → Legwise P d xs n → (i : ℕ) → 1 ≤ i → i ≤ n → P i (get_or (none ∷ (xs ++ rest)) i d)
  legwise_placed none xs rest n long each zero low high = absurd (omega arith)
  legwise_placed none xs rest n long each (suc k) low high =
      let less : k < n = omega arith in
      subst (P (suc k)) (sym (get_or_append_left xs rest d k (omega arith))) (rw add-one at (each k less))

-- the range of leg k + 1 in the slice of those of the legs 1 to n
pub slice_range_at : (es : List Ends) (n k : ℕ) (d : Ends) → k < n → n < length es → get_or (take (n + 1 - 1) (drop 1 es)) k d ≡ range es (k + 1)
slice_range_at es n k d low within =
    let none : Ends = record { lo = 0; hi = 0 } in
    let next : 1 + k ≡ k + 1 = omega arith in
    get_or-take (n + 1 - 1) (drop 1 es) k d (omega arith) ∙ get_or-drop 1 es k d ∙ get_or_default es (1 + k) d none (omega arith) ∙ ap (range es) next

-- what is put where it stands
pub put_own : (f : ℕ → ℕ) (i : ℕ) → put f i (f i) ≡ f
put_own f i = fun_ext (λ k. ⊎_elim (λ same. subst (λ m. put f i (f i) m ≡ f m) (sym same) (put_same f i (f i))) (λ other. put_other f i (f i) other) (cases_eq k i))

-- the array after a write, as f reads it with d beyond
pub read_set : {A : Type 0} (f : A → ℕ) (d : A) (xs : List A) (i : ℕ) (v : A) → i < length xs → (λ k. f (get_or (set xs i v) k d)) ≡ put (λ k. f (get_or xs k d)) i (f v)
read_set f d xs i v within = fun_ext (λ k.
    ⊎_elim
    (λ same.
    subst (λ m. f (get_or (set xs i v) m d) ≡ put (λ k. f (get_or xs k d)) i (f v) m) (sym same)
    (ap f (get_or-set_same xs i v d within) ∙ sym (put_same (λ k. f (get_or xs k d)) i (f v))))
    (λ other. ap f (get_or-set_other xs i k v d other) ∙ sym (put_other (λ k. f (get_or xs k d)) i (f v) other))
    (cases_eq k i))

module _ (es : List Ends) (i : ℕ) (e : Ends) (within : i < length es) where
  pub los_set : los (set es i e) ≡ put (los es) i e.lo
  los_set = read_set (λ e. e.lo) (record { lo = 0; hi = 0 }) es i e within

  pub his_set : his (set es i e) ≡ put (his es) i e.hi
  his_set = read_set (λ e. e.hi) (record { lo = 0; hi = 0 }) es i e within

  -- one lower end more is as f says
  pub los_more : (f : ℕ → ℕ) → e.lo ≡ f i → ((j : ℕ) → j < i → los es j ≡ f j) → (j : ℕ) → j < i + 1 → los (set es i e) j ≡ f j
  los_more f own before j low =
      after-set (λ v w. v ≡ f j) es i e j within
      (λ same. own ∙ ap f (sym same))
      (λ other. before j (omega arith))

  pub open_from-set : open_from (set es i e) ≡ put (open_from es) i e.lo
  open_from-set = read_set (λ e. e.lo) (record { lo = 0; hi = 4095 }) es i e within

  pub open_to-set : open_to (set es i e) ≡ put (open_to es) i e.hi
  open_to-set = read_set (λ e. e.hi) (record { lo = 0; hi = 4095 }) es i e within

-- an array that holds the lower ends
pub los_are : (es : List Ends) (xs : List ℕ) → length xs ≡ length es → ((k : ℕ) → k < length es → get_or xs k 0 ≡ los es k) → at xs ≡ los es
los_are es xs long same = fun_ext (λ k.
    ⊎_elim
    (same k)
    (λ past. get_or_past xs k 0 (rw long past) ∙ ap (λ (e : Ends). e.lo) (sym (get_or_past es k (record { lo = 0; hi = 0 }) past)))
    (cases_lt k (length es)))
