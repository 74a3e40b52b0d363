use Rattle.std.proofs.Common.{Err, ap, subst}
use Rattle.std.proofs.lemmas.Result.{err_from_is_err_and}
use Rattle.std.proofs.lemmas.Option.{MatchOption-at_some}
use Rattle.optimum.specs.Rotation.{Cheapest}
use Rattle.solver.specs.Outcomes.{Solves}
use Rattle.solver.specs.Plans.{at}
use Rattle.register.specs.Register.{standing}
use Rattle.states.specs.States.{reading}
use Rattle.states.proofs.Answering.{answered_entry, answered_unsolved, answered_granted}
use Rattle.states.proofs.Fitting.{fits_after, fitting}
use Rattle.states.proofs.state.State.time.Goals as goal

pub returns-in_err-admit-clause-carried : goal.returns-in_err-admit-clause-carried
returns-in_err-admit-clause-carried g c =
    let p = err_from_is_err_and c.from_residual.result c.from_residual.ensures.1 in
    rw (p.1, p.2)
    (record {
      answered = λ _. answered_entry (g.B.Book.meaning c.args.book.now) (reading c.args.self.now) c.args.call _ _ c.in_err-admit.ensures;
      sound = λ sound. sound;
    })

pub returns-in_err-found-clause-carried : goal.returns-in_err-found-clause-carried
returns-in_err-found-clause-carried g c =
    let b = g.B.Book.meaning c.args.book.now in
    let r = reading c.args.self.now in
    let fault = c.in_err-found.field-0.0 in
    let p = err_from_is_err_and c.from_residual-in_err-found.result c.from_residual-in_err-found.ensures.1 in
    rw (p.1, p.2)
    (record {
      answered = λ sound.
          answered_unsolved b r c.args.call _ fault c.in_ok-admit.ensures c.requires
          (fits_after b c.keeps_laws.ensures.shape r c.args.call _ (fitting sound) c.in_ok-admit.ensures c.requires)
          (subst (λ s. Solves b g.B.Cost.Amount.le s (Err fault)) c.planned-plan.ensures c.in_err-found.ensures.solves);
      sound = λ sound. sound;
    })

pub returns-clause-carried : goal.returns-clause-carried
returns-clause-carried g c =
    let b = g.B.Book.meaning c.args.book.now in
    let x = at c.in_ok-found.found.minutes in
    let solves = c.in_ok-found.ensures.solves in
    record {
      answered = λ _.
          answered_granted b (reading c.args.self.now) c.args.call _ _ x _ c.in_ok-admit.ensures c.requires
          (subst (λ s. Cheapest b g.B.Cost.Amount.le s x) c.planned-plan.ensures solves.1)
          (MatchOption-at_some _ _ _ c.unwrap-cost.ensures c.cost.ensures).1
          (ap standing c.planned-plan.ensures);
      sound = λ _. record { settled = record { lawful = solves.0; cheapest = solves.1; priced = solves.2 } };
    }
