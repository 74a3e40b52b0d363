-- A refusal board: rules in order, of which the first that is broken is the answer.
-- Assumes nothing.
use Rattle.std.specs.Prelude.{◌≡◌, ℕ, ◌<◌, ◌⊎◌, List, [], ◌∷◌}
use Rattle.board.specs.declared.Refusal.{Refusal}

-- a rule, by what breaks it and how that is told: broken as a whole, or at a leg, of which the lowest is told
pub data Rule : Type 1 where
  whole : Type 0 → Refusal → Rule
  each : (ℕ → Type 0) → (ℕ → Refusal) → Rule

-- nothing breaks the rule
abbrev pub Holds : Rule → Type 0
Holds (whole bad told) = bad → ⊥
Holds (each bad told) = (i : ℕ) → bad i → ⊥

-- the rule is broken, and r tells it
abbrev pub Breaks : Rule → Refusal → Type 0
Breaks (whole bad told) r = bad × (r ≡ told)
Breaks (each bad told) r = (i : ℕ) × bad i × ((j : ℕ) → j < i → bad j → ⊥) × (r ≡ told i)

-- no rule of the board is broken
abbrev pub Clear : List Rule → Type 0
Clear [] = Unit {0}
Clear (rule ∷ rules) = Holds rule × Clear rules

-- r tells the first rule of the board that is broken
abbrev pub Broken : List Rule → Refusal → Type 0
Broken [] r = ⊥
Broken (rule ∷ rules) r = Breaks rule r ⊎ (Holds rule × Broken rules r)
