-- Rates, and the laws of a charge book.
use Rattle.std.proofs.Common.{◌≡◌, ℕ, ◌+◌, ◌-◌, ◌*◌, ◌^◌, ◌≤◌, List, get_or, replicate, ℤ, pos, ap, ◌∙◌, inl, inr, mul-le-mul, arith}
use lib.ListN.{get_or-replicate, get_or-eq_default}
use Rattle.std.proofs.lemmas.Int.{ints}
use Rattle.std.proofs.lemmas.Bool.{cases_lt}
use Rattle.amounts.specs.Rows.{Row, single, minus, nearest}
use Rattle.amounts.specs.Orders.{Order, ByNumber, ByRank}
use Rattle.amounts.specs.Singles.{nearest_same, single-within, single_ends}
use Rattle.amounts.specs.JoinedRows.{joined-within, joined_ends, minus-joined, to_ranked}
use Rattle.books.specs.Meaning.{Meaning, Shaped, Ranged, Convex, step}
use Rattle.charges.specs.Charges.{rate, charged}

-- ---- the list of rates

pub all_zero : (k : ℕ) → ◌≡◌ {A = ℕ} (get_or (replicate 64 0) k 0) 0
all_zero k =
    elim (cases_lt k 64) [
      | inl h ↦ get_or-replicate 64 k 0 0 h
      | inr h ↦ get_or-eq_default (replicate 64 0) 0 h
    ]

-- ---- the laws

charge_small : (r m : ℕ) → r ≤ 65535 → m ≤ 65535 → r * m ≤ 2 ^ 40
charge_small r m p q = let h : r * m ≤ 65535 * 65535 = mul-le-mul p q in omega arith

-- what an amount made of a charge means is the charge itself
pub charge_paid : (r m : ℕ) (v : ℤ) → r ≤ 65535 → m ≤ 65535 → v ≡ nearest (pos (r * m)) → single (nearest v) ≡ single (pos (r * m))
charge_paid r m v p q e =
    let h = charge_small r m p q in
    let same : nearest (pos (r * m)) ≡ pos (r * m) = nearest_same _ (omega (arith, ints)) (omega (arith, ints)) in
    ap single (ap nearest (e ∙ same) ∙ same)

-- every step of the charge is the rate
even_steps : (r m : ℕ) → ByNumber (minus (single (pos (r * (m + 1)))) (single (pos (r * m)))) (minus (single (pos (r * (m + 1 + 1)))) (single (pos (r * (m + 1)))))
unfolding minus single
even_steps r m = omega (arith, ints)

module _ (n : ℕ) (below : Meaning) (rates : List ℕ) (small : (k : ℕ) → get_or rates k 0 ≤ 65535) where
  pub shaped : Shaped below → Shaped (charged n below rates)
  shaped s = record { few = s.few; ordered = s.ordered; short = s.short }

  pub ranged : Shaped below → Ranged n below → Ranged (n + 1) (charged n below rates)
  ranged s r i m p =
      let h = charge_small (rate rates i) m (small (i - 1)) (omega (arith, s.short i p.0)) in (
        joined-within _ _ _ _ _ (r i m p).0 (single-within _ _ (omega (arith, ints)) (omega (arith, ints))),
        joined_ends _ _ _ _ (single_ends _),
      )

  pub convex : {le : Row → Row → Type 0} → Order n le → Convex le below → Convex (ByRank n le ByNumber) (charged n below rates)
  unfolding step
  convex o rise i m p low high =
      simp minus-joined (to_ranked o ByNumber _ _ _ _ (rise i m p low high) (λ _. even_steps (rate rates i) m))
