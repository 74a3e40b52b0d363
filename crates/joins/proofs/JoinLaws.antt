-- The laws of a joined book.
use Rattle.std.proofs.Common.{◌≡◌, ℕ, ◌-◌, true, false, leb, ◌⊎◌, inl, inr, arith}
use Rattle.std.proofs.lemmas.Bool.{cases_lt, le-leb, lt-leb}
use Rattle.amounts.specs.Rows.{Row}
use Rattle.books.specs.Meaning.{Meaning, IsLeg, Shaped, Ranged, Convex, step}
use Rattle.joins.specs.Joins.{followed}

module _ (a b : Meaning) where
  -- a leg of the joined book is one of the first book, or one of the second counted on
  pub part : (i : ℕ) → IsLeg (followed a b) i → ((leb i a.legs ≡ true) × IsLeg a i) ⊎ ((leb i a.legs ≡ false) × IsLeg b (i - a.legs))
  part i p =
      elim (cases_lt a.legs i) [
        | inl past ↦ inr (lt-leb i a.legs past, (omega arith, omega arith))
        | inr here ↦ inl (le-leb i a.legs here, (p.0, here))
      ]

  pub shaped : Shaped a → Shaped b → Shaped (followed a b)
  shaped s t =
      record {
        few = omega arith;
        ordered = λ i p. elim (part i p) [ inl q ↦ simp q.0 (s.ordered i q.1) | inr q ↦ simp q.0 (t.ordered (i - a.legs) q.1) ];
        short = λ i p. elim (part i p) [ inl q ↦ simp q.0 (s.short i q.1) | inr q ↦ simp q.0 (t.short (i - a.legs) q.1) ];
      }

  pub ranged : (n : ℕ) → Ranged n a → Ranged n b → Ranged n (followed a b)
  ranged n r s i m p =
      elim (part i p.0) [
        | inl q ↦ simp q.0 (r i m (q.1, simp q.0 at p.1, simp q.0 at p.2))
        | inr q ↦ simp q.0 (s (i - a.legs) m (q.1, simp q.0 at p.1, simp q.0 at p.2))
      ]

  pub convex : (le : Row → Row → Type 0) → Convex le a → Convex le b → Convex le (followed a b)
  unfolding step
  convex le r s i m p low high =
      elim (part i p) [
        | inl q ↦ simp q.0 (r i m q.1 (simp q.0 at low) (simp q.0 at high))
        | inr q ↦ simp q.0 (s (i - a.legs) m q.1 (simp q.0 at low) (simp q.0 at high))
      ]
