-- What is said of a timing.
-- Assumes nothing.
use Rattle.std.specs.Prelude.{◌≡◌, ℕ, zero, suc, ◌+◌, ◌≤◌, ◌⊎◌, List, [], ◌++◌, codes, decimal}

-- the minutes x of the legs 1 to n, each behind a space
unfoldable pub spaced : (ℕ → ℕ) → ℕ → List ℕ
spaced x zero = []
spaced x (suc k) = spaced x k ++ (codes " " ++ decimal (x (suc k)))

-- the words list the minutes x of every leg that is there, as far as leg 64
pub record Listed (There : ℕ → Type 0) (x : ℕ → ℕ) (words : List ℕ) : Type 0 where
  pub legs : ℕ
  pub there : (i : ℕ) → 1 ≤ i → i ≤ legs → There i
  pub last : (legs ≡ 64) ⊎ (There (legs + 1) → ⊥)
  pub text : words ≡ spaced x legs
