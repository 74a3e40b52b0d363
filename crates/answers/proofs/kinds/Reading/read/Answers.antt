use Rattle.answers.proofs.Apart.{read_bytes, well_formed}
use Rattle.answers.proofs.kinds.Reading.read.Goals as goal

pub returns-in_err-count-clause-only : goal.returns-in_err-count-clause-only
returns-in_err-count-clause-only c = λ reply spells. absurd (c.in_err-count.ensures.0 (rw spells.is (well_formed reply spells.fits)))

pub returns-clause-only : goal.returns-clause-only
returns-clause-only c =
    read_bytes c.args.line.now _ c.args.minutes.now c.decode.result c.decode.new.minutes c.in_ok-count.ensures.2 c.decode.ensures
