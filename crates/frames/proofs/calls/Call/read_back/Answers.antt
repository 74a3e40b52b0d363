use Rattle.std.proofs.Common.{◌≡◌, take, Ok, sym, subst}
use Rattle.std.proofs.lemmas.List.{take_at}
use Rattle.frames.specs.Frames.{Spells, line_of}
use Rattle.frames.proofs.calls.Call.read_back.Goals as goal

pub returns : goal.returns
returns c =
    let wrote = c.write-count.ensures in
    let line : take c.write-count.result c.write-count.new.place ≡ line_of c.args.self =
    rw wrote.after (take_at (line_of c.args.self) _ _ (sym wrote.count)) in
    sym (c.read.ensures.only (Ok c.args.self) (subst (λ text. Spells text c.args.self) (sym line) wrote.spells))
