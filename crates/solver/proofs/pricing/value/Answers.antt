use Rattle.std.proofs.Common.{sym, ◌∙◌, arith}
use Rattle.optimum.proofs.Fair.{worth-none, worth-step}
use Rattle.solver.proofs.pricing.value.Goals as goal

pub returns-then-price-eq0 : goal.returns-then-price-eq0
returns-then-price-eq0 g c = c.zero.ensures ∙ sym (worth-none (g.B.Book.meaning c.args.book.now) c.args.price c.if-price-eq0.true)

pub returns : goal.returns
returns g c = c.step_from.ensures ∙ sym (worth-step (g.B.Book.meaning c.args.book.now) c.args.price (let h = c.if-price-eq0.false in omega arith))
