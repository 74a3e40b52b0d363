-- One leg more in a list of minutes.
use Rattle.std.proofs.Common.{◌≡◌, ℕ, ◌+◌, List, ◌++◌, ap₂, ◌∙◌, codes, decimal, add-one}
use Rattle.sample_run.specs.Words.{spaced}

pub spaced_more :
    (x : ℕ → ℕ) (k m : ℕ) (all next : List ℕ) → all ≡ spaced x k → m ≡ x (k + 1) → next ≡ all ++ (codes " " ++ decimal m) →
    next ≡ spaced x (k + 1)
unfolding spaced
spaced_more x k m all next so_far is grown = rw add-one (grown ∙ ap₂ (λ t n. t ++ (codes " " ++ decimal n)) so_far (rw add-one at is))
