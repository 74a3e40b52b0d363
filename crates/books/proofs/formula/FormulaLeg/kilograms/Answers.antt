use Rattle.std.proofs.Common.{◌≡◌, ◌*◌, ◌^◌, ◌<◌, pos, ◌+ℤ◌, ◌∙◌, arith, w64, to_z, of_z}
use Rattle.std.proofs.lemmas.Int.{ints}
use Rattle.books.proofs.Formulas.{product_below, kilograms_is}
use Rattle.books.proofs.formula.FormulaLeg.kilograms.Goals as goal

pub returns : goal.returns
returns c =
    let p : c.from.result * c.squared_gap.result < 2 ^ 48 = grind (arith, product_below) in
    let e : to_z w64 (of_z w64 (to_z w64 (c.from.result * c.squared_gap.result) +ℤ to_z w64 (of_z w64 c.from-2.result))) ≡ pos (c.from.result * c.squared_gap.result) +ℤ c.args.self.r = omega (arith, ints) in
    e ∙ kilograms_is _ _ _ _ c.from.ensures c.squared_gap.ensures.value
