-- That a price names a step in one way at most, for the field of a sound sheet.
-- Assumes nothing.
use Rattle.std.specs.Prelude.{◌⊎◌}
use Rattle.std.proofs.Common.{ap, inl, inr, arith}
use Rattle.std.proofs.Props.{props}
use Rattle.books.specs.Meaning.{Meaning}
use Rattle.optimum.specs.Prices.{Named}
use Rattle.optimum.specs.declared.Price.{Price}

one_way : {A B : Type 0} → IsProp A → IsProp B → (A → B → ⊥) → IsProp (A ⊎ B)
one_way one other apart (inl x) (inl y) = ap inl (one x y)
one_way one other apart (inl x) (inr y) = absurd (apart x y)
one_way one other apart (inr x) (inl y) = absurd (apart y x)
one_way one other apart (inr x) (inr y) = ap inr (other x y)

pub named_prop : (b : Meaning) (p : Price) → IsProp (Named b p)
named_prop b p = one_way (Prim.hlevel props) (Prim.hlevel props) (λ zero leg. omega (arith, zero.0, leg.0.0))
