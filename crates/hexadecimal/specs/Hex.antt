-- Bytes as capital hexadecimal digits.
-- Assumes nothing.
use Rattle.std.specs.Prelude.{◌≡◌, ℕ, ◌+◌, ◌*◌, ◌/◌, ◌%◌, ◌<◌, ◌≤◌, cond, ◌⊎◌, List, [], ◌∷◌, ◌++◌, length, take, drop, Option, MatchOption, nat_lt, slice_index}

-- the character of a number below 16: 0 to 9 stand at 48, A to F at 65
abbrev pub digit : ℕ → ℕ
digit n = cond (nat_lt n 10) (48 + n) (55 + n)

-- a character that is a digit
abbrev pub Digit : ℕ → Type 0
Digit x = ((48 ≤ x) × (x ≤ 57)) ⊎ ((65 ≤ x) × (x ≤ 70))

-- a line of nothing but digits
abbrev pub Digits : List ℕ → Type 0
Digits line = (k : ℕ) → k < length line → Digit (slice_index line k)

-- a character that is the digit of n
abbrev pub Stands : ℕ → ℕ → Type 0
Stands x n = (n < 16) × (x ≡ digit n)

-- how bytes are written: two digits a byte, the high one first
abbrev pub hexed : List ℕ → List ℕ
hexed [] = []
hexed (b ∷ bs) = digit (b / 16) ∷ digit (b % 16) ∷ hexed bs

-- a line that is read as these bytes
abbrev pub Hexes : List ℕ → List ℕ → Type 0
Hexes line bytes = line ≡ hexed bytes

-- a line of whole bytes, one at least and no more characters than the limit
pub record WellFormed (limit : ℕ) (line : List ℕ) : Type 0 where
  pub some : 0 < length line
  pub short : length line ≤ limit
  pub even : length line % 2 ≡ 0
  pub digits : Digits line

-- bytes written at the start of a place, which held `before` and holds `after`: how many characters, the others as they were;
-- or none, all as it was, if the place is too short
abbrev pub Puts : List ℕ → List ℕ → Option ℕ → List ℕ → Type 0
Puts bytes before r after =
    MatchOption r ((length before < length (hexed bytes)) × (after ≡ before))
    (λ count. (count ≡ length (hexed bytes)) × (after ≡ hexed bytes ++ drop count before))

-- the bytes of a line read into the start of a place, which held `before` and holds `after`: how many, the others as they were;
-- or none, all as it was, if the line is not well formed or too long for the place
abbrev pub Takes : List ℕ → List ℕ → Option ℕ → List ℕ → Type 0
Takes line before r after =
    MatchOption r ((WellFormed (2 * length before) line → ⊥) × (after ≡ before))
    (λ count. WellFormed (2 * length before) line × (count ≤ length before) × Hexes line (take count after) × (drop count after ≡ drop count before))
