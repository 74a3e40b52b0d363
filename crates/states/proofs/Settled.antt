-- Settings as the arrays of a plan hold them. Assumes nothing.
use Rattle.std.proofs.Common.{◌≡◌, ℕ, ◌+◌, ◌-◌, ◌≤◌, zero, suc, Some, None, Option, MatchOption, unwrap_or, List, ◌∷◌, ◌++◌, length, get_or, drop, replicate, add-one, sym, ap, ◌∙◌, ⊎_elim, arith}
use mathlib.Core.Path.{fun_ext}
use Rattle.std.proofs.lemmas.Bool.{cases_lt}
use Rattle.std.proofs.lemmas.List.{get_or-append_right, get_or-drop, get_or-replicate, get_or_append_left, get_or_past, length-replicate}
use Rattle.std.proofs.lemmas.Bool.Decides.{nat_tests}
use Rattle.books.specs.Meaning.{Meaning, IsLeg}
use Rattle.books.specs.declared.Ends.{Ends}
use Rattle.optimum.specs.Rotation.{Settings}
use Rattle.solver.specs.Plans.{los, his}
use Rattle.solver.proofs.Places.{Legwise}
use Rattle.register.specs.Register.{legwise}

pub same_settings : (s s' : Settings) → s.total ≡ s'.total → s.low ≡ s'.low → s.high ≡ s'.high → s.opens ≡ s'.opens → s.shuts ≡ s'.shuts → s ≡ s'
same_settings s s' total low high opens shuts = λ i. record { total = total i; low = low i; high = high i; opens = opens i; shuts = shuts i }

-- an array that holds one value everywhere, which stands beyond it too
replicated : {A : Type 0} (n : ℕ) (v : A) (k : ℕ) → get_or (replicate n v) k v ≡ v
replicated n v k = ⊎_elim (λ within. get_or-replicate n k v v within) (λ past. get_or_past (replicate n v) k v (simp length-replicate past)) (cases_lt k n)

pub read_replicate : {A : Type 0} (f : A → ℕ) (n : ℕ) (v : A) → ◌≡◌ {A = ℕ → ℕ} (λ k. f (get_or (replicate n v) k v)) (λ k. f v)
read_replicate f n v = fun_ext (λ k. ap f (replicated n v k))

-- ---- the ends of a book's legs in an array

-- what stands in the place of a leg that is not there
abbrev pub no_ends : Ends
no_ends = record { lo = 0; hi = 0 }

pub legwise-leg : (n : ℕ) (f : ℕ → ℕ) (i : ℕ) → 1 ≤ i → i ≤ n → legwise n f i ≡ f i
unfolding legwise
legwise-leg n f i low high = grind (arith, nat_tests)

-- what no loop has reached of an array of no leg's ends
pub bare : (n m k : ℕ) → get_or (drop m (replicate n no_ends)) k no_ends ≡ no_ends
bare n m k = get_or-drop m (replicate n no_ends) k no_ends ∙ replicated n no_ends (m + k)

-- the ends of leg i, and 0 for what is no leg
abbrev pub ends_of : Meaning → ℕ → Ends
ends_of b i = record { lo = legwise b.legs b.lo i; hi = legwise b.legs b.hi i }

module _ (b : Meaning) where
  no_leg : (f : ℕ → ℕ) (i : ℕ) → (IsLeg b i → ⊥) → legwise b.legs f i ≡ 0
  unfolding legwise
  no_leg f i none = grind (arith, nat_tests)

  pub own_ends : (i : ℕ) (o : Option Ends) → MatchOption o (IsLeg b i → ⊥) (λ e. IsLeg b i × (e.lo ≡ b.lo i) × (e.hi ≡ b.hi i)) → unwrap_or o no_ends ≡ ends_of b i
  own_ends i None none = λ t. record { lo = sym (no_leg b.lo i none) t; hi = sym (no_leg b.hi i none) t }
  own_ends i (Some e) found = λ t. record { lo = (found.1 ∙ sym (legwise-leg b.legs b.lo i found.0.0 found.0.1)) t; hi = (found.2 ∙ sym (legwise-leg b.legs b.hi i found.0.0 found.0.1)) t }

  -- an array that holds the ends of the legs behind the place of no leg, and no leg's ends behind them
  module _ (xs rest : List Ends) (long : length xs ≡ b.legs) (each : Legwise (λ i e. e ≡ ends_of b i) no_ends xs b.legs) (bare : (k : ℕ) → get_or rest k no_ends ≡ no_ends) where
    placed : (i : ℕ) → get_or (no_ends ∷ (xs ++ rest)) i no_ends ≡ ends_of b i
    placed zero = own_ends 0 None (λ leg. omega (arith, leg.0))
    placed (suc k) =
        ⊎_elim
        (λ low. get_or_append_left xs rest no_ends k (omega arith) ∙ each k low ∙ ap (ends_of b) (add-one k))
        (λ past. get_or-append_right xs rest b.legs k no_ends long past ∙ bare (k - b.legs) ∙ own_ends (suc k) None (λ leg. omega (arith, leg.1)))
        (cases_lt k b.legs)

    pub placed_los : los (no_ends ∷ (xs ++ rest)) ≡ legwise b.legs b.lo
    placed_los = fun_ext (λ i. ap (λ (e : Ends). e.lo) (placed i))

    pub placed_his : his (no_ends ∷ (xs ++ rest)) ≡ legwise b.legs b.hi
    placed_his = fun_ext (λ i. ap (λ (e : Ends). e.hi) (placed i))
