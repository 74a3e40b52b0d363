-- What the costs of the sample books add up to: one place in kilograms, or two in kilograms and cents.
use Rattle.std.proofs.Common.{◌≡◌, ℕ, zero, suc, ◌*◌, List, [], ◌∷◌, replicate, ℤ, pos, ◌+ℤ◌, sym, ap, ◌∙◌}
use Rattle.amounts.specs.Rows.{Row, single, joined, plus, none}
use Rattle.amounts.specs.Singles.{plus-single, single_zero}
use Rattle.amounts.specs.JoinedRows.{plus-joined, joined-none}
use Rattle.charges.specs.Charges.{charged, rate}
use Rattle.books.specs.Formula.{formulas, kilograms, at}
use Rattle.books.specs.declared.formula.FormulaLeg.{FormulaLeg}
use Rattle.optimum.specs.Rotation.{spent, cost_of_timing}
use Rattle.samples.specs.Samples.{leg, legs, rated}

-- kilograms on the legs add up to kilograms
number_sum : (ls : List FormulaLeg) (x : ℕ → ℕ) (k : ℕ) → spent (formulas ls) x k ≡ single (spent (formulas ls) x k 0)
unfolding spent plus single none
number_sum ls x zero = sym single_zero
number_sum ls x (suc k) =
    let v = kilograms (at ls (suc k)) (x (suc k)) in
    ap (λ r. plus r (single v)) (number_sum ls x k) ∙ plus-single (spent (formulas ls) x k 0) v

-- an amount in kilograms and cents
abbrev pair : ℤ → ℤ → Row
pair v w = joined 1 (single v) (single w)

no_pair : none ≡ pair (pos 0) (pos 0)
no_pair = rw (single_zero, joined-none)

plus-pair : (a b c d : ℤ) → plus (pair a b) (pair c d) ≡ pair (a +ℤ c) (b +ℤ d)
plus-pair a b c d = rw (plus-joined, plus-single a c, plus-single b d)

-- kilograms and cents on the legs add up to kilograms and cents
ranked_sum :
    (ls : List FormulaLeg) (rates : List ℕ) (x : ℕ → ℕ) (k : ℕ) →
    spent (charged 1 (formulas ls) rates) x k ≡ pair (spent (charged 1 (formulas ls) rates) x k 0) (spent (charged 1 (formulas ls) rates) x k 1)
unfolding spent plus single none joined
ranked_sum ls rates x zero = no_pair
ranked_sum ls rates x (suc k) =
    let v = kilograms (at ls (suc k)) (x (suc k)) in
    let w = pos (rate rates (suc k) * x (suc k)) in
    let before = spent (charged 1 (formulas ls) rates) x k in
    ap (λ r. plus r (pair v w)) (ranked_sum ls rates x k) ∙ plus-pair (before 0) (before 1) v w

-- in the books of the samples
pub legs_cost : (q n : ℕ) (x : ℕ → ℕ) → cost_of_timing (legs q n) x ≡ single (cost_of_timing (legs q n) x 0)
legs_cost q n x = number_sum (replicate n (leg q)) x _

pub rated_cost : (q n : ℕ) (x : ℕ → ℕ) → cost_of_timing (rated (legs q n)) x ≡ pair (cost_of_timing (rated (legs q n)) x 0) (cost_of_timing (rated (legs q n)) x 1)
rated_cost q n x = ranked_sum (replicate n (leg q)) (3 ∷ 2 ∷ []) x _
