-- What an iterator over the lines of a text has still to hand out.
-- Assumes nothing.
use Rattle.std.specs.Prelude.{◌≡◌, ℕ, List, [], ◌∷◌, Option, MatchOption}
use Rattle.std.specs.Borrow.{Bor}
use Rattle.lines.specs.Lines.{lines_of}
use Rattle.lines.specs.declared.lines.Lines.{Lines}

-- the lines that are still to come
abbrev pub to_come : Lines → List (List ℕ)
to_come s = lines_of s.rest.now

-- one line is handed out, the first of those to come, or none, if there is none
abbrev pub HandsOut : Lines → Option (Bor (List ℕ)) → Lines → Type 0
HandsOut s r t = MatchOption r ((to_come s ≡ []) × (to_come t ≡ [])) (λ line. to_come s ≡ line.now ∷ to_come t)
