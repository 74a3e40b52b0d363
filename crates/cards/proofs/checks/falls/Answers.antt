-- The comparison in 128 bits is that of the exact steps.
use Rattle.std.proofs.Common.{◌≡◌, ℤ, ◌-ℤ◌, ◌<ℤ◌, arith, w64, SFits, to_z, of_z}
use lib.Signed.{lt_z}
use mir.Syntax.{w128}
use Rattle.std.proofs.lemmas.Int.{ints}
use Rattle.amounts.specs.Orders.{Tells}
use Rattle.cards.proofs.checks.falls.Goals as goal

-- to the bits of 128 and back
abbrev wide : ℤ → ℤ
wide z = to_z w128 (of_z w128 z)

abbrev narrow : ℤ → ℤ
narrow z = to_z w64 (of_z w64 z)

-- the difference of two costs is exact
exact : (x y : ℤ) → SFits w64 x → SFits w64 y → wide (wide (wide (narrow x)) -ℤ wide (wide (narrow y))) ≡ x -ℤ y
exact x y f g = omega (arith, ints)

-- the test of an order tells it
tells_less : (a b x y : ℤ) → a ≡ x → b ≡ y → Tells (lt_z a b) (x <ℤ y)
tells_less a b x y p q = grind (arith, ints)

pub returns : goal.returns
returns c =
    tells_less _ _ (c.args.after -ℤ c.args.middle) (c.args.middle -ℤ c.args.before)
    (exact c.args.after c.args.middle c.ranges.after c.ranges.middle)
    (exact c.args.middle c.args.before c.ranges.middle c.ranges.before)
