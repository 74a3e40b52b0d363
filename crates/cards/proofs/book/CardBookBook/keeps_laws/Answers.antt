-- The laws of books, from what every card book carries.
use Rattle.cards.proofs.Laws.{shaped, ranged, convex}
use Rattle.cards.proofs.book.CardBookBook.keeps_laws.Goals as goal

pub returns : goal.returns
returns c =
    let book = c.args.self.now in
    record {
      shape = shaped _ _ book.shaped.shaped book.lawful;
      range = ranged _ _ book.shaped.shaped book.lawful;
      steps = convex _ _ book.shaped.shaped book.lawful;
    }
