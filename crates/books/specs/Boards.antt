-- The refusal boards of the books: what stops a leg from being added, and a rate from being set.
-- Assumes nothing.
use Rattle.std.specs.Prelude.{◌≡◌, ℕ, ◌+◌, ◌^◌, ◌<◌, ◌≤◌, ◌⊎◌, List, [], ◌∷◌, pos, neg_ℤ, ◌<ℤ◌}
use Rattle.board.specs.Rules.{Rule, whole}
use Rattle.books.specs.Faults.{row}
use Rattle.books.specs.declared.formula.FormulaLeg.{FormulaLeg}

-- adding a leg to a formula book of n legs: too many legs; ends out of order, or an end or t too late; r out of range
abbrev pub leg_rules : ℕ → FormulaLeg → List Rule
leg_rules n leg =
    whole (64 ≤ n) (row 5 65)
    ∷ whole ((leg.hi < leg.lo) ⊎ (4095 < leg.hi) ⊎ (4095 < leg.t)) (row 6 (n + 1))
    ∷ whole ((leg.r <ℤ neg_ℤ (pos (2 ^ 29))) ⊎ (pos (2 ^ 29) <ℤ leg.r)) (row 7 (n + 1))
    ∷ []

-- setting the rate of a leg: legs are numbered from 1 to 64
abbrev pub rate_rules : ℕ → List Rule
rate_rules leg = whole ((leg ≡ 0) ⊎ (64 < leg)) (row 11 leg) ∷ []
