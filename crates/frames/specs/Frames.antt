-- Calls as frames: the kind and then the fields, numbers high byte first.
-- Assumes nothing.
use Rattle.std.specs.Prelude.{◌≡◌, ℕ, ◌/◌, ◌%◌, ◌^◌, ◌<◌, List, [], ◌∷◌, ◌++◌, length, drop, ℤ, Result, MatchResult, FitsSigned, ◌≢◌, slice_index}
use Rattle.std.specs.Int.{w32}
use Rattle.std.proofs.Common.{of_z}
use Rattle.std.specs.List.{AllByRecursion}
use Rattle.frames.specs.Faults.{told}
use Rattle.hexadecimal.specs.Hex.{hexed, Hexes, WellFormed}
use Rattle.frames.specs.declared.calls.Call.{Call}
use Rattle.frames.specs.declared.calls.Call.TheVariants.{Open, Bounds, Window, Lift, Total, Close, AddLeg, SetRate}
use Rattle.frames.specs.declared.faults.FrameFault.{FrameFault}
use Rattle.frames.specs.declared.faults.FrameFault.TheVariants.{Malformed, UnknownKind, WrongLength, TooLate}

-- a number in two bytes, in front of the rest
abbrev pub word : ℕ → List ℕ → List ℕ
word n rest = (n / 256 % 256) ∷ (n % 256) ∷ rest

-- a number with its sign in four bytes, in two's complement, in front of the rest
abbrev pub long : ℤ → List ℕ → List ℕ
long z rest = (of_z w32 z / 16777216 % 256) ∷ (of_z w32 z / 65536 % 256) ∷ (of_z w32 z / 256 % 256) ∷ (of_z w32 z % 256) ∷ rest

-- the kind of a call
abbrev pub kind_of : Call → ℕ
kind_of (Open total) = 0x01
kind_of (Bounds leg low high) = 0x02
kind_of (Window stop low high) = 0x03
kind_of (Lift stop) = 0x04
kind_of (Total total) = 0x05
kind_of Close = 0x06
kind_of (AddLeg q t r lo hi) = 0x11
kind_of (SetRate leg rate) = 0x12

-- the fields of a call, in their order
abbrev pub fields_of : Call → List ℕ
fields_of (Open total) = word total []
fields_of (Bounds leg low high) = leg ∷ word low (word high [])
fields_of (Window stop low high) = stop ∷ word low (word high [])
fields_of (Lift stop) = stop ∷ []
fields_of (Total total) = word total []
fields_of Close = []
fields_of (AddLeg q t r lo hi) = word q (word t (long r (word lo (word hi []))))
fields_of (SetRate leg rate) = leg ∷ word rate []

-- the bytes of a call
abbrev pub frame_of : Call → List ℕ
frame_of c = kind_of c ∷ fields_of c

-- the line that a call is written as
abbrev pub line_of : Call → List ℕ
line_of c = hexed (frame_of c)

-- numbers that fit their fields: legs and stops one byte, r four with its sign, all others two
abbrev pub Fits : Call → Type 0
Fits (Open total) = total < 2 ^ 16
Fits (Bounds leg low high) = (leg < 2 ^ 8) × (low < 2 ^ 16) × (high < 2 ^ 16)
Fits (Window stop low high) = (stop < 2 ^ 8) × (low < 2 ^ 16) × (high < 2 ^ 16)
Fits (Lift stop) = stop < 2 ^ 8
Fits (Total total) = total < 2 ^ 16
Fits Close = Unit {0}
Fits (AddLeg q t r lo hi) = (q < 2 ^ 16) × (t < 2 ^ 16) × FitsSigned w32 r × (lo < 2 ^ 16) × (hi < 2 ^ 16)
Fits (SetRate leg rate) = (leg < 2 ^ 8) × (rate < 2 ^ 16)

-- bytes that are the frame of a call
pub record Frames (bytes : List ℕ) (c : Call) : Type 0 where
  pub is : bytes ≡ frame_of c
  pub fits : Fits c

-- the kinds, each with the number of bytes in its frames
abbrev pub sizes : List (ℕ × ℕ)
sizes = (0x01, 3) ∷ (0x02, 6) ∷ (0x03, 6) ∷ (0x04, 2) ∷ (0x05, 3) ∷ (0x06, 1) ∷ (0x11, 13) ∷ (0x12, 4) ∷ []

-- bytes whose kind, the first of them, is none of these
abbrev pub Unknown : List ℕ → Type 0
Unknown bytes = AllByRecursion (λ size. size.0 ≢ slice_index bytes 0) sizes

-- bytes of which there are more or fewer than in the frames of their kind
abbrev pub Misfits : List ℕ → Type 0
Misfits bytes = AllByRecursion (λ size. size.0 ≡ slice_index bytes 0 → size.1 ≢ length bytes) sizes

-- why bytes are no frame
abbrev pub Faulty : List ℕ → FrameFault → Type 0
Faulty bytes Malformed = ⊥
Faulty bytes UnknownKind = Unknown bytes
Faulty bytes WrongLength = Misfits bytes × (Unknown bytes → ⊥)
Faulty bytes TooLate = ⊥

-- what bytes are read as
abbrev pub Decoded : List ℕ → Result Call FrameFault → Type 0
Decoded bytes r = MatchResult r (Frames bytes) (Faulty bytes)

-- a line that spells a call
pub record Spells (line : List ℕ) (c : Call) : Type 0 where
  pub is : Hexes line (frame_of c)
  pub fits : Fits c

-- when a refusal applies to a line on its own: it is not well formed; its kind is unknown; its length is wrong for its kind;
-- it is never too late, since no line comes before it
abbrev pub Applies : FrameFault → List ℕ → Type 0
Applies Malformed line = WellFormed 64 line → ⊥
Applies UnknownKind line = (bytes : List ℕ) × Hexes line bytes × Unknown bytes
Applies WrongLength line = (bytes : List ℕ) × Hexes line bytes × Misfits bytes
Applies TooLate line = ⊥

-- the refusal with the lowest number of those that apply
pub record Refused (line : List ℕ) (f : FrameFault) : Type 0 where
  pub applies : Applies f line
  pub first : (g : FrameFault) → (told g).number < (told f).number → Applies g line → ⊥

-- how a line is answered: by the call that it spells, or by the first refusal that applies
abbrev pub Answer : List ℕ → Result Call FrameFault → Type 0
Answer line r = MatchResult r (Spells line) (Refused line)

-- a line read and written back over the start of a place, which held `before` and holds `after`: that line, the other characters
-- as they were; or a line that is refused, and all as it was
abbrev pub ComesBack : List ℕ → List ℕ → Result ℕ FrameFault → List ℕ → Type 0
ComesBack line before r after =
    MatchResult r (λ count. (count ≡ length line) × (after ≡ line ++ drop count before)) (λ f. Refused line f × (after ≡ before))
