use Rattle.joins.proofs.JoinLaws.{shaped, ranged, convex}
use Rattle.joins.proofs.joined.JoinedBookBook.keeps_laws.Goals as goal

pub returns : goal.returns
returns g c =
    let first = c.keeps_laws.ensures in
    let second = c.keeps_laws-2.ensures in
    record {
      shape = shaped _ _ first.shape second.shape;
      range = ranged _ _ _ first.range second.range;
      steps = convex _ _ g.L.Cost.Amount.le first.steps second.steps;
    }
