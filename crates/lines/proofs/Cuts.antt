-- Lemmas on the lines of a text: the first line, and that the lines are the only ones that make up the text.
use Rattle.std.proofs.Common.{◌≡◌, ℕ, zero, suc, ◌+◌, ◌<◌, ◌≤◌, cond, eqb, List, [], ◌∷◌, ◌++◌, length, get_or, take, drop, sym, refl, ap, ◌∙◌, inl, inr, add-one, arith}
use Rattle.std.specs.List.{AllByRecursion}
use Rattle.std.proofs.lemmas.List.{nil_from_length}
use Rattle.std.proofs.lemmas.Bool.{cases_eq, cond-false, cond-true, eq-eqb, ne_eqb}
use Rattle.lines.specs.Lines.{ended, closed, Splits, grown, lines_of}

pub no_lines : (text : List ℕ) → length text ≡ 0 → lines_of text ≡ []
no_lines text none = ap lines_of (nil_from_length text none)

cut : (text : List ℕ) (n : ℕ) → 0 < length text → n ≤ length text →
    ((k : ℕ) → k < n → get_or text k 0 ≡ 10 → ⊥) → (n < length text → get_or text n 0 ≡ 10) →
    lines_of text ≡ take n text ∷ lines_of (drop (suc n) text)
cut [] n some within before found = absurd (omega arith)
cut (x ∷ text) zero some within before found = rw (eq-eqb x 10 (found (omega arith)))
cut (x ∷ []) (suc zero) some within before found = rw (ne_eqb x 10 (before 0 (omega arith)))
cut (x ∷ []) (suc (suc n)) some within before found = absurd (omega arith)
cut (x ∷ y ∷ text) (suc n) some within before found =
    rw (ne_eqb x 10 (before 0 (omega arith)))
    (ap (grown x) (cut (y ∷ text) n (omega arith) (omega arith)
    (λ k h. before (suc k) (omega arith)) (λ h. found (omega arith))))

-- the first line ends at the first line feed or at the end
pub first_line : (text rest : List ℕ) (n : ℕ) → 0 < length text → n ≤ length text →
    ((k : ℕ) → k < n → get_or text k 0 ≡ 10 → ⊥) → (n < length text → get_or text n 0 ≡ 10) →
    rest ≡ drop (n + 1) text → lines_of text ≡ take n text ∷ lines_of rest
first_line text rest n some within before found is = rw (is, add-one) (cut text n some within before found)

-- a line takes a character at least
few_grown : (x : ℕ) (lines : List (List ℕ)) (n : ℕ) → length lines ≤ n → length (grown x lines) ≤ suc n
few_grown x [] n few = omega arith
few_grown x (line ∷ lines) n few = omega arith

pub few_lines : (text : List ℕ) → length (lines_of text) ≤ length text
few_lines [] = omega arith
few_lines (x ∷ text) =
    elim (cases_eq x 10) [
      | inl is ↦ rw (eq-eqb x 10 is) (omega (arith, few_lines text))
      | inr ne ↦ rw (ne_eqb x 10 ne) (few_grown x (lines_of text) (length text) (few_lines text))
    ]

-- no line holds a line feed
Free : List ℕ → Type 0
Free = AllByRecursion (λ x. x ≡ 10 → ⊥)

free_grown : (x : ℕ) (lines : List (List ℕ)) → (x ≡ 10 → ⊥) → AllByRecursion Free lines → AllByRecursion Free (grown x lines)
unfolding Free
free_grown x [] ne free = ((ne, tt), tt)
free_grown x (line ∷ lines) ne free = ((ne, free.0), free.1)

free_lines_of : (text : List ℕ) → AllByRecursion Free (lines_of text)
unfolding Free
free_lines_of [] = tt
free_lines_of (x ∷ text) =
    elim (cases_eq x 10) [
      | inl is ↦ rw (eq-eqb x 10 is) (tt, free_lines_of text)
      | inr ne ↦ rw (ne_eqb x 10 ne) (free_grown x (lines_of text) ne (free_lines_of text))
    ]

some_lines : (x : ℕ) (text : List ℕ) → 0 < length (lines_of (x ∷ text))
some_lines x text =
    elim (cases_eq x 10) [
      | inl is ↦ rw (eq-eqb x 10 is) (omega arith)
      | inr ne ↦ rw (ne_eqb x 10 ne) (some_grown (lines_of text))
    ]
  where
    some_grown : (lines : List (List ℕ)) → 0 < length (grown x lines)
    some_grown [] = omega arith
    some_grown (line ∷ lines) = omega arith

ended-grown : (x : ℕ) (lines : List (List ℕ)) → 0 < length lines → ended (grown x lines) ≡ x ∷ ended lines
ended-grown x [] some = absurd (omega arith)
ended-grown x (line ∷ lines) some = refl

-- the lines with their line feeds are the text
ended_lines_of : (text : List ℕ) → ended (lines_of text) ≡ closed text
ended_lines_of [] = refl
ended_lines_of (x ∷ []) =
    elim (cases_eq x 10) [
      | inl is ↦ rw (eq-eqb x 10 is) (ap (λ k. k ∷ []) (sym is))
      | inr ne ↦ rw (ne_eqb x 10 ne)
    ]
ended_lines_of (x ∷ y ∷ text) =
    elim (cases_eq x 10) [
      | inl is ↦ rw (eq-eqb x 10 is) (rw is (ap (λ t. 10 ∷ t) (ended_lines_of (y ∷ text))))
      | inr ne ↦ rw (ne_eqb x 10 ne)
          (ended-grown x (lines_of (y ∷ text)) (some_lines y text) ∙ ap (λ t. x ∷ t) (ended_lines_of (y ∷ text)))
    ]

pub splits_lines_of : (text : List ℕ) → Splits text (lines_of text)
unfolding Free
splits_lines_of text = record { free = free_lines_of text; whole = ended_lines_of text }

-- lines are found again where their line feeds are
lines_of_line : (line rest : List ℕ) → Free line → lines_of ((line ++ 10 ∷ []) ++ rest) ≡ line ∷ lines_of rest
unfolding Free
lines_of_line [] rest free = refl
lines_of_line (x ∷ line) rest free = rw (ne_eqb x 10 free.0) (ap (grown x) (lines_of_line line rest free.1))

lines_of_ended : (lines : List (List ℕ)) → AllByRecursion Free lines → lines_of (ended lines) ≡ lines
lines_of_ended [] free = refl
lines_of_ended (line ∷ lines) free =
    lines_of_line line (ended lines) free.0 ∙ ap (λ t. line ∷ t) (lines_of_ended lines free.1)

lines_of_closed : (text : List ℕ) → lines_of (closed text) ≡ lines_of text
lines_of_closed [] = refl
lines_of_closed (x ∷ []) =
    elim (cases_eq x 10) [
      | inl is ↦ ap lines_of (cond-true (eqb x 10) (x ∷ []) (x ∷ 10 ∷ []) (eq-eqb x 10 is))
      | inr ne ↦ ap lines_of (cond-false (eqb x 10) (x ∷ []) (x ∷ 10 ∷ []) (ne_eqb x 10 ne)) ∙ rw (ne_eqb x 10 ne)
    ]
lines_of_closed (x ∷ y ∷ text) =
    ap (λ lines. cond (eqb x 10) ([] ∷ lines) (grown x lines)) (lines_of_closed (y ∷ text))

-- and no other lines make it up
pub only_lines_of : (text : List ℕ) (lines : List (List ℕ)) → Splits text lines → lines ≡ lines_of text
unfolding Free
only_lines_of text lines s = sym (lines_of_ended lines s.free) ∙ ap lines_of s.whole ∙ lines_of_closed text
