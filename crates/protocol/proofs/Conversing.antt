-- One line more in a conversation, and its end.
use Rattle.std.proofs.Common.{◌≡◌, ℕ, ◌+◌, List, [], ◌∷◌, ◌++◌, sym, refl, ap, ◌∙◌, subst, append_assoc, append-nil}
use Rattle.answers.specs.Spelling.{Reply, spelled, Spells}
use Rattle.register.specs.declared.areas.Areas.{Areas}
use Rattle.protocol.specs.Conversation.{Answers, Line}
use Rattle.protocol.specs.Stages.{Stage}

module _ (P : List ℕ → Type 0) (room : Areas) (n : ℕ) (stage : Stage) (lines : List (List ℕ)) (all : List ℕ)
    (so_far : (rest : List ℕ) → Answers room n stage lines rest → P (all ++ rest)) where
  pub answers_more : (line : List ℕ) (after : List (List ℕ)) (stage' : Stage) (reply meant : Reply) (next : List ℕ) → lines ≡ line ∷ after →
      Line room stage line reply n stage' → meant ≡ reply → Spells (spelled meant) meant → next ≡ all ++ (spelled meant ++ 10 ∷ []) →
      (rest : List ℕ) → Answers room (n + 1) stage' after rest → P (next ++ rest)
  answers_more line after stage' reply meant next is answered same spells grown rest said =
      let words = spelled meant in
      let joined : next ++ rest ≡ all ++ (words ++ 10 ∷ rest) =
      ap (λ t. t ++ rest) grown ∙ append_assoc all (words ++ 10 ∷ []) rest ∙ ap (λ t. all ++ t) (append_assoc words (10 ∷ []) rest) in
      let whole : Answers room n stage (line ∷ after) (words ++ 10 ∷ rest) =
      (meant, stage', words, rest, subst (λ r. Line room stage line r n stage') (sym same) answered, spells, refl, said) in
      subst P (sym joined) (so_far (words ++ 10 ∷ rest) (subst (λ ls. Answers room n stage ls (words ++ 10 ∷ rest)) (sym is) whole))

  pub answers_all : lines ≡ [] → P all
  answers_all none =
      let whole : Answers room n stage [] [] = refl in
      subst P (append-nil all) (so_far [] (subst (λ ls. Answers room n stage ls []) (sym none) whole))
