-- Rows joined of two, and the ranked order on them.
use Rattle.std.specs.Prelude.{◌≡◌, ℕ, ◌+◌, ◌-◌, ◌≤◌, Bool, true, false, cond, ◌⊎◌, pos, ◌+ℤ◌, ◌-ℤ◌, nat_lt, refl}
use Rattle.std.proofs.Math.Path.{sym, fun_ext}
use Rattle.std.proofs.Common.{ap, ◌∙◌}
use Rattle.std.proofs.Math.Logic.{inl, inr}
use native.Mathlib.Omega.{arith}
use Rattle.std.proofs.lemmas.Bool.{lt-ltb, le-ltb, cases_lt, cond-true, cond-false}
use Rattle.amounts.specs.Rows.{Row, none, plus, minus, joined, rest, Same, Within, Ends}
use Rattle.amounts.specs.Orders.{Order, ByRank, Tells}
use Rattle.amounts.specs.RowLaws.{cancelled}

-- ---- the two parts

pub joined_first : (m : ℕ) (x y : Row) → Same m (joined m x y) x
unfolding joined
joined_first m x y k h = cond-true _ _ _ (lt-ltb k m h)

pub joined-rest : (m : ℕ) (x y : Row) → rest m (joined m x y) ≡ y
unfolding joined rest
joined-rest m x y =
    fun_ext (λ k. cond-false _ _ _ (le-ltb (m + k) m (omega arith)) ∙ ap y (omega arith))

joined_second : (m : ℕ) (x y : Row) (k : ℕ) → m ≤ k → joined m x y k ≡ y (k - m)
unfolding joined
joined_second m x y k h = cond-false _ _ _ (le-ltb k m h)

pub joined-none : (m : ℕ) → joined m none none ≡ none
unfolding joined none
joined-none m = fun_ext (λ k. elim (nat_lt k m) as (λ b. cond b (pos 0) (pos 0) ≡ pos 0) [ true ↦ refl | false ↦ refl ])

pub plus-joined : (m : ℕ) (x y z w : Row) → plus (joined m x y) (joined m z w) ≡ joined m (plus x z) (plus y w)
unfolding joined plus
plus-joined m x y z w =
    fun_ext (λ k. elim (nat_lt k m) as (λ b. cond b (x k) (y (k - m)) +ℤ cond b (z k) (w (k - m)) ≡ cond b (x k +ℤ z k) (y (k - m) +ℤ w (k - m))) [ true ↦ refl | false ↦ refl ])

pub minus-joined : (m : ℕ) (x y z w : Row) → minus (joined m x y) (joined m z w) ≡ joined m (minus x z) (minus y w)
unfolding joined minus
minus-joined m x y z w =
    fun_ext (λ k. elim (nat_lt k m) as (λ b. cond b (x k) (y (k - m)) -ℤ cond b (z k) (w (k - m)) ≡ cond b (x k -ℤ z k) (y (k - m) -ℤ w (k - m))) [ true ↦ refl | false ↦ refl ])

-- ---- ranges

module _ (limit m n : ℕ) (x y : Row) where
  pub joined-within : Within limit m x → Within limit n y → Within limit (m + n) (joined m x y)
  joined-within p q k h =
      elim (cases_lt k m) [
        | inl low ↦ rw (joined_first m x y k low) (p k low)
        | inr high ↦ rw (joined_second m x y k high) (q (k - m) (omega arith))
      ]

  pub within_first : Within limit (m + n) (joined m x y) → Within limit m x
  within_first p k h = let e = joined_first m x y k h in rw e at (p k (omega arith))

  pub within_second : Within limit (m + n) (joined m x y) → Within limit n y
  within_second p k h =
      let e : joined m x y (m + k) ≡ y k = joined_second m x y (m + k) (omega arith) ∙ ap y (omega arith) in
      rw e at (p (m + k) (omega arith))

pub joined_ends : (m n : ℕ) (x y : Row) → Ends n y → Ends (m + n) (joined m x y)
joined_ends m n x y q k h = joined_second m x y k (omega arith) ∙ q (k - m) (omega arith)

-- ---- the ranked order

module _ {m n : ℕ} {first second : Row → Row → Type 0} (p : Order m first) (q : Order n second) where
  by_first : (x y : Row) → first x y → ByRank m first second x y ⊎ ByRank m first second y x
  by_first x y xy =
      elim (p.decided y x) [
        | no apart ↦ inl (xy, λ yx. absurd (apart yx))
        | yes yx ↦ elim (q.total (rest m x) (rest m y)) [ inl h ↦ inl (xy, λ _. h) | inr h ↦ inr (yx, λ _. h) ]
      ]

  ranked_total : (x y : Row) → ByRank m first second x y ⊎ ByRank m first second y x
  ranked_total x y =
      elim (p.total x y) [
        | inl h ↦ by_first x y h
        | inr h ↦ elim (by_first y x h) [ inl g ↦ inr g | inr g ↦ inl g ]
      ]

  ranked_antisymmetric : (x y : Row) → ByRank m first second x y → ByRank m first second y x → Same (m + n) x y
  unfolding rest
  ranked_antisymmetric x y f g k h =
      elim (cases_lt k m) [
        | inl low ↦ p.antisymmetric x y f.0 g.0 k low
        | inr high ↦
            let e : m + (k - m) ≡ k = omega arith in
            rw e at (q.antisymmetric (rest m x) (rest m y) (f.1 g.0) (g.1 f.0) (k - m) (omega arith))
      ]

  ranked_added : (x y z : Row) → ByRank m first second x y → ByRank m first second (plus x z) (plus y z)
  unfolding rest plus
  ranked_added x y z f = (
    p.added x y z f.0,
    λ back. q.added (rest m x) (rest m y) (rest m z) (f.1 (cancelled p y x z back)),
  )

  ranked_decided : (x y : Row) → Dec (ByRank m first second x y)
  ranked_decided x y =
      elim (p.decided x y) [
        | no apart ↦ no (λ f. apart f.0)
        | yes xy ↦
            elim (p.decided y x) [
              | no apart ↦ yes (xy, λ yx. absurd (apart yx))
              | yes yx ↦
                  elim (q.decided (rest m x) (rest m y))
                  [ no apart ↦ no (λ f. apart (f.1 yx)) | yes h ↦ yes (xy, λ _. h) ]
            ]
      ]

  ranked_placed : (x y x' y' : Row) → Same (m + n) x x' → Same (m + n) y y' → ByRank m first second x y → ByRank m first second x' y'
  unfolding rest
  ranked_placed x y x' y' sx sy f = (
    p.placed x y x' y' (λ k h. sx k (omega arith)) (λ k h. sy k (omega arith)) f.0,
    λ back. q.placed (rest m x) (rest m y) (rest m x') (rest m y')
        (λ k h. sx (m + k) (omega arith))
        (λ k h. sy (m + k) (omega arith))
        (f.1 (p.placed y' x' y x (λ k h. sym (sy k (omega arith))) (λ k h. sym (sx k (omega arith))) back)),
  )

  pub ranked_order : Order (m + n) (ByRank m first second)
  ranked_order =
      record {
        total = ranked_total;
        transitive = λ x y z f g. (
          p.transitive x y z f.0 g.0,
          λ back. q.transitive _ _ _ (f.1 (p.transitive y z x g.0 back)) (g.1 (p.transitive z x y back f.0)),
        );
        antisymmetric = ranked_antisymmetric;
        added = ranked_added;
        decided = ranked_decided;
        placed = ranked_placed;
      }

-- ---- joined rows in the ranked order

module _ {m : ℕ} {first : Row → Row → Type 0} (p : Order m first) (second : Row → Row → Type 0) (x y z w : Row) where
  pub to_ranked : first x z → (first z x → second y w) → ByRank m first second (joined m x y) (joined m z w)
  to_ranked xz decides = (
    p.placed x z _ _ (λ k h. sym (joined_first m x y k h)) (λ k h. sym (joined_first m z w k h)) xz,
    λ back. rw (joined-rest m x y, joined-rest m z w)
        (decides (p.placed _ _ z x (joined_first m z w) (joined_first m x y) back)),
  )

  pub from_ranked : ByRank m first second (joined m x y) (joined m z w) → first x z × (first z x → second y w)
  from_ranked f = (
    p.placed _ _ x z (joined_first m x y) (joined_first m z w) f.0,
    λ back. rw (joined-rest m x y, joined-rest m z w) at
        (f.1 (p.placed z x _ _ (λ k h. sym (joined_first m z w k h)) (λ k h. sym (joined_first m x y k h)) back)),
  )

  -- between equals in the first part the second decides
  pub tells_ranked : (b : Bool) → first x z → first z x → Tells b (second y w) → Tells b (ByRank m first second (joined m x y) (joined m z w))
  tells_ranked true xz zx h = to_ranked xz (λ _. h)
  tells_ranked false xz zx h = λ f. h ((from_ranked f).1 zx)
