-- The two laws of prices, for the order of the kind.
use Rattle.optimum.proofs.price_laws.Goals as goal
use Rattle.optimum.proofs.Certificate as certificate

pub returns : goal.returns
returns g c = let o = g.met.A.Amount.order in record { certified = λ b s x p timing rule. certificate.certified o timing rule; agreed = λ b s x y first second. certificate.same_cost o first second }
