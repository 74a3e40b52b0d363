-- What the solver answers of the settings s over a book b.
-- Assumes nothing.
use Rattle.std.specs.Prelude.{ℕ, Result, Ok, Err}
use Rattle.amounts.specs.Rows.{Row}
use Rattle.books.specs.Meaning.{Meaning}
use Rattle.optimum.specs.Rotation.{Settings, Cheapest}
use Rattle.optimum.specs.Prices.{PriceRule}
use Rattle.solver.specs.Plans.{at, Lawful, First, price_at}
use Rattle.solver.specs.declared.Solution.{Solution}
use Rattle.solver.specs.declared.fault.PlanFault.{PlanFault}
use Rattle.solver.specs.declared.fault.PlanFault.TheVariants.{Unlawful, Stuck}

-- the fault is that nothing is left at a leg of n, and it names the first such leg
abbrev pub Blocked : ℕ → Settings → PlanFault → Type 0
Blocked n s (Stuck leg) = First n s leg
Blocked n s Unlawful = ⊥

-- settings that fit, with a cheapest timing and prices that keep the rule, or with the first leg at which nothing is left; or
-- settings that do not fit
abbrev pub Solves : Meaning → (Row → Row → Type 0) → Settings → Result Solution PlanFault → Type 0
Solves b le s (Ok found) = Lawful b s × Cheapest b le s (at found.minutes) × PriceRule b le s (at found.minutes) (price_at found.prices)
Solves b le s (Err (Stuck leg)) = Lawful b s × First b.legs s leg
Solves b le s (Err Unlawful) = Lawful b s → ⊥
