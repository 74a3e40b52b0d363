use Rattle.std.proofs.Common.{rules}
use Rattle.frames.proofs.Fields.{formula_frame}
use Rattle.frames.proofs.reading.decode.Goals as goal

pub returns-in-17 : goal.returns-in-17
returns-in-17 c = record { is = search (rules, formula_frame c.args.bytes.now c.type_inv.bytes); fits = search rules }
