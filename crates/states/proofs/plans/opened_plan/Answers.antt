use Rattle.std.proofs.Common.{◌≡◌, ℕ, ◌+◌, ◌-◌, ◌<◌, get_or, refl, ◌∙◌, arith}
use Rattle.std.proofs.lemmas.List.{length-set}
use Rattle.books.specs.declared.Ends.{Ends}
use Rattle.solver.proofs.Places.{legwise_more}
use Rattle.states.proofs.Settled.{same_settings, read_replicate, no_ends, bare, ends_of, own_ends, placed_los, placed_his}
use Rattle.states.proofs.plans.opened_plan.Goals as goal

pub loop-k-preserved : goal.loop-k-preserved
loop-k-preserved g c =
    let b = g.B.Book.meaning c.args.book.now in
    let k = c.loop-k.k in (
      simp length-set c.loop-k.invariant.0,
      legwise_more (λ i e. e ≡ ends_of b i) no_ends c.loop-k.place-items k c.unwrap_or.result (omega arith)
          (c.unwrap_or.ensures ∙ own_ends b (k + 1) c.ends.result c.ends.ensures)
          c.loop-k.invariant.1,
    )

pub returns : goal.returns
returns g c =
    let b = g.B.Book.meaning c.args.book.now in
    let xs = c.loop-k.place-items in
    let long = c.loop-k.invariant.0 in
    let each : (i : ℕ) → i < b.legs → get_or xs i no_ends ≡ ends_of b (i + 1) = λ i low. c.loop-k.invariant.1 i (omega arith) in
    same_settings _ _ refl
    (placed_los b xs _ long each (bare 64 (c.legs.result + 1 - 1)))
    (placed_his b xs _ long each (bare 64 (c.legs.result + 1 - 1)))
    (read_replicate (λ (e : Ends). e.lo) 65 _)
    (read_replicate (λ (e : Ends). e.hi) 65 _)
