use Rattle.std.proofs.Common.{◌≡◌, [], ◌∷◌, ◌++◌, ℕ, take, sym, ap, ◌∙◌, arith}
use Rattle.std.proofs.lemmas.List.{length-set, length-take, take_at, take_more_set}
use Rattle.answers.specs.Meaning.{meant}
use Rattle.answers.specs.Spelling.{spelled}
use Rattle.answers.proofs.Apart.{same_reply, well_formed}
use Rattle.answers.proofs.kinds.Answer.write.Goals as goal

pub unreachable-requires : goal.unreachable-requires
unreachable-requires c = omega (arith, c.in_default.ensures.digits.0, (well_formed _ c.in_default.ensures.fits).short)

pub bounds-line-end : goal.bounds-line-end
bounds-line-end c = omega (arith, c.in-Some.ensures.digits.0, (well_formed _ c.in-Some.ensures.fits).short)

pub slice_bounds-line-end : goal.slice_bounds-line-end
slice_bounds-line-end c = omega (arith, c.in-Some.ensures.digits.0, (well_formed _ c.in-Some.ensures.fits).short, length-set {A = ℕ})

pub slice_bounds-extend_from_slice-end : goal.slice_bounds-extend_from_slice-end
slice_bounds-extend_from_slice-end c = omega (arith, c.in-Some.ensures.digits.0, (well_formed _ c.in-Some.ensures.fits).short, length-set {A = ℕ}, length-take {A = ℕ})

pub returns-clause-items : goal.returns-clause-items
returns-clause-items c =
    let end = c.in-Some.end in
    let wrote = c.in-Some.ensures.digits in
    let digits : take end c.write_digits.new.line ≡ spelled (meant c.args.self) = ap (take end) wrote.1 ∙ take_at (spelled (meant c.args.self)) _ end (sym wrote.0) in
    let line = take_more_set c.write_digits.new.line end 10 (omega (arith, wrote.0, (well_formed _ c.in-Some.ensures.fits).short)) ∙ ap (λ t. t ++ 10 ∷ []) digits in
    simp line at c.extend_from_slice.ensures.items

pub returns-clause-short : goal.returns-clause-short
returns-clause-short c = (well_formed _ c.in-Some.ensures.fits).short

pub returns-clause-only : goal.returns-clause-only
returns-clause-only c = λ other spells. same_reply _ _ spells.fits c.in-Some.ensures.fits (sym spells.is)
