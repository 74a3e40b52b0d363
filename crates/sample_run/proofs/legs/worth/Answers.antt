use Rattle.std.proofs.Common.{◌≡◌, ℕ, ◌+◌, Some, None, Option, sym, ◌∙◌, subst, ap₂, MatchOption}
use Rattle.amounts.specs.Rows.{Row, Exactly, InRange, minus}
use Rattle.books.specs.Formula.{formulas}
use Rattle.books.specs.Meaning.{step}
use Rattle.optimum.specs.Prices.{Named}
use Rattle.optimum.proofs.Fair.{worth-none, worth-step}
use Rattle.optimum.proofs.Sums.{step_range}
use Rattle.sample_run.proofs.legs.worth.Goals as goal

pub returns-then-price-eq0 : goal.returns-then-price-eq0
returns-then-price-eq0 c =
    let book = c.args.book.now in
    c.zero.ensures ∙ sym (worth-none (formulas book.legs.items) c.args.price c.if-price-eq0.true)

-- an exact answer in the range is there, and is what it is known to be
there :
    {A : Type 0} (r : Option A) (n : ℕ) (row : A → Row) (x y : Row) (P : Type 0) → Exactly n row x r → InRange n y → x ≡ y →
    MatchOption r (P → ⊥) (λ a. row a ≡ y)
there None n row x y P exact range is = absurd (exact (subst (InRange n) (sym is) range))
there (Some a) n row x y P exact range is = exact.1 ∙ is

pub returns : goal.returns
unfolding step
returns c =
    let book = c.args.book.now in
    let b = formulas book.legs.items in
    let next : c.in_ok-checked_add.field-0 ≡ c.args.price.minute + 1 = c.in_ok-checked_add.ensures.1 in
    let after = simp next at c.in_ok-after.ensures in
    let before = c.in_ok-before.ensures in
    let is = worth-step b c.args.price before.0.0.0 in
    let range = step_range b c.keeps_laws.ensures.range c.args.price.leg c.args.price.minute before.0 after.0 in
    there _ 1 _ _ _ (Named b c.args.price) c.checked_sub.ensures (subst (InRange 1) (sym is) range) (ap₂ minus after.1 before.1 ∙ sym is)
