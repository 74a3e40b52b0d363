-- Boards one behind the other, and that a board tells one refusal. Assumes nothing.
use Rattle.std.proofs.Common.{◌≡◌, ◌⊎◌, List, [], ◌∷◌, ◌++◌, sym, ap, ◌∙◌, inl, inr, ⊎_elim}
use Rattle.std.proofs.lemmas.Bool.{cases_order}
use Rattle.board.specs.Rules.{Rule, whole, each, Holds, Breaks, Clear, Broken}
use Rattle.board.specs.declared.Refusal.{Refusal}

pub broken_front : (front back : List Rule) (why : Refusal) → Broken front why → Broken (front ++ back) why
broken_front [] back why broken = absurd broken
broken_front (rule ∷ rules) back why broken = ⊎_elim inl (λ later. inr (later.0, broken_front rules back why later.1)) broken

pub broken_back : (front back : List Rule) (why : Refusal) → Clear front → Broken back why → Broken (front ++ back) why
broken_back [] back why clear broken = broken
broken_back (rule ∷ rules) back why clear broken = inr (clear.0, broken_back rules back why clear.1 broken)

pub clear_both : (front back : List Rule) → Clear front → Clear back → Clear (front ++ back)
clear_both [] back clear behind = behind
clear_both (rule ∷ rules) back clear behind = (clear.0, clear_both rules back clear.1 behind)

-- where a board of two parts is broken
pub broken_split : (front back : List Rule) (why : Refusal) → Broken (front ++ back) why → Broken front why ⊎ (Clear front × Broken back why)
broken_split [] back why broken = inr (tt, broken)
broken_split (rule ∷ rules) back why broken =
    ⊎_elim
    (λ here. inl (inl here))
    (λ later. ⊎_elim (λ front. inl (inr (later.0, front))) (λ behind. inr ((later.0, behind.0), behind.1)) (broken_split rules back why later.1))
    broken

-- a rule tells one refusal
told_one : (rule : Rule) (p q : Refusal) → Breaks rule p → Breaks rule q → p ≡ q
told_one (whole bad told) p q one other = one.1 ∙ sym other.1
told_one (each bad told) p q one other =
    ⊎_elim
    (λ same. one.3 ∙ ap told same ∙ sym other.3)
    (⊎_elim (λ less. absurd (other.2 one.0 less one.1)) (λ more. absurd (one.2 other.0 more other.1)))
    (cases_order one.0 other.0)

-- a rule that is broken does not hold
broken_holds : (rule : Rule) (why : Refusal) → Breaks rule why → Holds rule → ⊥
broken_holds (whole bad told) why broken holds = holds broken.0
broken_holds (each bad told) why broken holds = holds broken.0 broken.1

-- a board that is broken tells one refusal, and is not clear
pub broken_one : (rules : List Rule) (p q : Refusal) → Broken rules p → Broken rules q → p ≡ q
broken_one [] p q one other = absurd one
broken_one (rule ∷ rules) p q one other =
    ⊎_elim
    (λ here. ⊎_elim (told_one rule p q here) (λ later. absurd (broken_holds rule p here later.0)) other)
    (λ past. ⊎_elim (λ here. absurd (broken_holds rule q here past.0)) (λ later. broken_one rules p q past.1 later.1) other)
    one

pub broken_clear : (rules : List Rule) (why : Refusal) → Broken rules why → Clear rules → ⊥
broken_clear [] why broken clear = broken
broken_clear (rule ∷ rules) why broken clear = ⊎_elim (λ here. broken_holds rule why here clear.0) (λ later. broken_clear rules why later.1 clear.1) broken
