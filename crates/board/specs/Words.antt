-- Refusals in words.
-- Assumes nothing.
use Rattle.std.specs.Prelude.{ℕ, List, ◌++◌, codes, decimal}
use Rattle.board.specs.declared.Refusal.{Refusal}

-- a refusal: its number and the leg that it tells
abbrev pub words_of_refusal : Refusal → List ℕ
words_of_refusal r = codes "refused " ++ (decimal r.number ++ (codes ", leg " ++ decimal r.leg))
