-- The lines of a text. A line feed is the character 10.
-- Assumes nothing.
use Rattle.std.specs.Prelude.{◌≡◌, ℕ, cond, List, [], ◌∷◌, ◌++◌, ◌==◌, ◌≢◌}
use Rattle.std.specs.List.{flat_map, AllByRecursion}

-- the lines, each followed by its line feed
abbrev pub ended : List (List ℕ) → List ℕ
ended lines = flat_map (λ line. line ++ 10 ∷ []) lines

-- the text, with the line feed that its end stands for where characters follow the last one
abbrev pub closed : List ℕ → List ℕ
closed [] = []
closed (x ∷ []) = cond (x == 10) (x ∷ []) (x ∷ 10 ∷ [])
closed (x ∷ y ∷ text) = x ∷ closed (y ∷ text)

-- the lines of a text: no line holds a line feed, and with their line feeds they are the text, in its order
pub record Splits (text : List ℕ) (lines : List (List ℕ)) : Type 0 where
  pub free : AllByRecursion (AllByRecursion (λ x. x ≢ 10)) lines
  pub whole : ended lines ≡ closed text

-- a character put in front of the first line
abbrev pub grown : ℕ → List (List ℕ) → List (List ℕ)
grown x [] = (x ∷ []) ∷ []
grown x (line ∷ lines) = (x ∷ line) ∷ lines

-- the list of lines that a text splits into
abbrev pub lines_of : List ℕ → List (List ℕ)
lines_of [] = []
lines_of (x ∷ text) = cond (x == 10) ([] ∷ lines_of text) (grown x (lines_of text))
