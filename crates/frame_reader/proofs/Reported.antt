-- One line more in a report, and its end.
use Rattle.std.proofs.Common.{◌≡◌, ℕ, ◌+◌, List, [], ◌∷◌, ◌++◌, sym, refl, ap, ◌∙◌, subst, append_assoc, append-nil}
use Rattle.frame_reader.specs.Words.{Reports, Says}

module _ (P : List ℕ → Type 0) (number : ℕ) (lines : List (List ℕ)) (all : List ℕ)
    (so_far : (rest : List ℕ) → Reports number lines rest → P (all ++ rest)) where
  pub report_more : (line : List ℕ) (after : List (List ℕ)) (words next : List ℕ) → lines ≡ line ∷ after → Says number line words →
      next ≡ (all ++ words) ++ 10 ∷ [] → (rest : List ℕ) → Reports (number + 1) after rest → P (next ++ rest)
  report_more line after words next is says grown rest said =
      let joined : next ++ rest ≡ all ++ (words ++ 10 ∷ rest) =
      ap (λ t. t ++ rest) grown ∙ append_assoc (all ++ words) (10 ∷ []) rest ∙ append_assoc all words (10 ∷ rest) in
      let whole : Reports number (line ∷ after) (words ++ 10 ∷ rest) = (words, rest, says, refl, said) in
      subst P (sym joined) (so_far (words ++ 10 ∷ rest) (subst (λ ls. Reports number ls (words ++ 10 ∷ rest)) (sym is) whole))

  pub report_all : lines ≡ [] → P all
  report_all none =
      let whole : Reports number [] [] = refl in
      subst P (append-nil all) (so_far [] (subst (λ ls. Reports number ls []) (sym none) whole))
