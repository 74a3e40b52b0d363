-- The numbers of the layers.
-- Assumes nothing.
use Rattle.std.specs.Prelude.{◌≡◌, ◌≢◌, ℕ, Result, MatchResult}
use Rattle.board.specs.declared.Layer.{Layer}
use Rattle.board.specs.declared.Layer.TheVariants.{Frame, Book, Sheet}
use Rattle.board.specs.declared.UnknownLayer.{UnknownLayer}

-- the number by which a refusal tells its layer
abbrev pub code : Layer → ℕ
code Frame = 1
code Book = 2
code Sheet = 3

-- the layer that has the number, or an error with a number that no layer has
abbrev pub Decodes : ℕ → Result Layer UnknownLayer → Type 0
Decodes number r =
    MatchResult r (λ layer. code layer ≡ number) (λ e. (e.0 ≡ number) × ((layer : Layer) → code layer ≢ number))
