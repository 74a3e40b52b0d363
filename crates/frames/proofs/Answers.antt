-- Lemmas on the answer to a line: which one it is, and that there is no other.
use Rattle.std.proofs.Common.{◌≡◌, ℕ, ◌*◌, ◌<◌, ◌≤◌, cond, ◌==◌, List, length, Ok, Err, Result, sym, refl, ap, ◌∙◌, subst, inl, inr, arith}
use Rattle.std.specs.List.{AllByRecursion}
use Rattle.std.proofs.lemmas.Bool.{cases_order}
use Rattle.frames.specs.Faults.{told}
use Rattle.hexadecimal.specs.Hex.{hexed, Hexes, WellFormed}
use Rattle.frames.specs.Frames.{Answer, Applies, Decoded, Fits, Misfits, Spells, Unknown, frame_of, line_of}
use Rattle.frames.specs.declared.calls.Call.{Call}
use Rattle.frames.specs.declared.calls.Call.TheVariants.{Open, Bounds, Window, Lift, Total, Close, AddLeg, SetRate}
use Rattle.frames.specs.declared.faults.FrameFault.{FrameFault}
use Rattle.frames.specs.declared.faults.FrameFault.TheVariants.{Malformed, UnknownKind, WrongLength, TooLate}
use Rattle.hexadecimal.proofs.Digits.{digits_hexed, length-hexed}
use Rattle.frames.proofs.Inverse.{same_hexed, same_frame}

pub answer_malformed : (line : List ℕ) → (WellFormed 64 line → ⊥) → Answer line (Err Malformed)
answer_malformed line bad = record { applies = bad; first = first }
  where
    first : (g : FrameFault) → (told g).number < 1 → Applies g line → ⊥
    first Malformed lower applies = omega arith
    first UnknownKind lower applies = omega arith
    first WrongLength lower applies = omega arith
    first TooLate lower applies = applies

pub answer_decoded : (line bytes : List ℕ) (r : Result Call FrameFault) →
    WellFormed 64 line → Hexes line bytes → Decoded bytes r → Answer line r
answer_decoded line bytes (Ok c) good spelled read = record { is = spelled ∙ ap hexed read.is; fits = read.fits }
answer_decoded line bytes (Err Malformed) good spelled read = absurd read
answer_decoded line bytes (Err UnknownKind) good spelled read = record { applies = (bytes, spelled, read); first = first }
  where
    first : (g : FrameFault) → (told g).number < 2 → Applies g line → ⊥
    first Malformed lower bad = bad good
    first UnknownKind lower applies = omega arith
    first WrongLength lower applies = omega arith
    first TooLate lower applies = applies
answer_decoded line bytes (Err TooLate) good spelled read = absurd read
answer_decoded line bytes (Err WrongLength) good spelled read =
    record { applies = (bytes, spelled, read.0); first = first }
  where
    first : (g : FrameFault) → (told g).number < 3 → Applies g line → ⊥
    first Malformed lower bad = bad good
    first UnknownKind lower (others, spells, unknown) =
        read.1 (subst Unknown (same_hexed others bytes (sym spells ∙ spelled)) unknown)
    first WrongLength lower applies = omega arith
    first TooLate lower applies = applies

-- the frame of a call is bytes
small_frame : (c : Call) → Fits c → AllByRecursion (λ b. b < 256) (frame_of c)
small_frame (Open total) fits = search arith parts 20
small_frame (Bounds leg low high) fits = search arith parts 20
small_frame (Window stop low high) fits = search arith parts 20
small_frame (Lift stop) fits = search arith parts 20
small_frame (Total total) fits = search arith parts 20
small_frame Close fits = search arith parts 20
small_frame (AddLeg q t r lo hi) fits = search arith parts 20
small_frame (SetRate leg rate) fits = search arith parts 20

-- the frame of a call has a kind and a length of the table
known : (c : Call) → Unknown (frame_of c) → ⊥
known (Open total) u = u.0 refl
known (Bounds leg low high) u = u.1.0 refl
known (Window stop low high) u = u.1.1.0 refl
known (Lift stop) u = u.1.1.1.0 refl
known (Total total) u = u.1.1.1.1.0 refl
known Close u = u.1.1.1.1.1.0 refl
known (AddLeg q t r lo hi) u = u.1.1.1.1.1.1.0 refl
known (SetRate leg rate) u = u.1.1.1.1.1.1.1.0 refl

fitting : (c : Call) → Misfits (frame_of c) → ⊥
fitting (Open total) m = m.0 refl refl
fitting (Bounds leg low high) m = m.1.0 refl refl
fitting (Window stop low high) m = m.1.1.0 refl refl
fitting (Lift stop) m = m.1.1.1.0 refl refl
fitting (Total total) m = m.1.1.1.1.0 refl refl
fitting Close m = m.1.1.1.1.1.0 refl refl
fitting (AddLeg q t r lo hi) m = m.1.1.1.1.1.1.0 refl refl
fitting (SetRate leg rate) m = m.1.1.1.1.1.1.1.0 refl refl

short : (c : Call) → length (frame_of c) ≤ 13
short (Open total) = omega arith
short (Bounds leg low high) = omega arith
short (Window stop low high) = omega arith
short (Lift stop) = omega arith
short (Total total) = omega arith
short Close = omega arith
short (AddLeg q t r lo hi) = omega arith
short (SetRate leg rate) = omega arith

well_formed : (c : Call) → Fits c → WellFormed 64 (line_of c)
well_formed c fits =
    let size : length (line_of c) ≡ 2 * length (frame_of c) = length-hexed (frame_of c) in
    let most = short c in
    record { some = omega arith; short = omega arith; even = omega arith; digits = digits_hexed (frame_of c) (small_frame c fits) }

-- a line that spells a call is not refused
clash : (line : List ℕ) (c : Call) (f : FrameFault) → Spells line c → Applies f line → ⊥
clash line c Malformed spells bad = bad (subst (WellFormed 64) (sym spells.is) (well_formed c spells.fits))
clash line c UnknownKind spells (bytes, spelled, unknown) =
    known c (subst Unknown (same_hexed bytes (frame_of c) (sym spelled ∙ spells.is)) unknown)
clash line c WrongLength spells (bytes, spelled, misfits) =
    fitting c (subst Misfits (same_hexed bytes (frame_of c) (sym spelled ∙ spells.is)) misfits)
clash line c TooLate spells applies = applies

-- the refusal with a number
numbered : ℕ → FrameFault
numbered n = cond (n == 1) Malformed (cond (n == 2) UnknownKind (cond (n == 3) WrongLength TooLate))

number_is : (f : FrameFault) → numbered (told f).number ≡ f
unfolding numbered
number_is Malformed = refl
number_is UnknownKind = refl
number_is WrongLength = refl
number_is TooLate = refl

same_number : (f g : FrameFault) → (told f).number ≡ (told g).number → f ≡ g
same_number f g e = sym (number_is f) ∙ ap numbered e ∙ number_is g

pub answer_only : (line : List ℕ) (r s : Result Call FrameFault) → Answer line r → Answer line s → s ≡ r
answer_only line (Ok c) (Ok d) one other =
    ap Ok (same_frame d c other.fits one.fits (same_hexed (frame_of d) (frame_of c) (sym other.is ∙ one.is)))
answer_only line (Ok c) (Err g) one other = absurd (clash line c g one other.applies)
answer_only line (Err f) (Ok d) one other = absurd (clash line d f other one.applies)
answer_only line (Err f) (Err g) one other =
    elim (cases_order (told f).number (told g).number) [
      | inl e ↦ ap Err (sym (same_number f g e))
      | inr (inl lower) ↦ absurd (other.first f lower one.applies)
      | inr (inr higher) ↦ absurd (one.first g higher other.applies)
    ]
