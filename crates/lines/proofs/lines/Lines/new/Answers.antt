use Rattle.std.proofs.Common.{refl}
use Rattle.lines.proofs.Cuts.{few_lines, splits_lines_of, only_lines_of}
use Rattle.lines.proofs.lines.Lines.new.Goals as goal

pub returns : goal.returns
returns c = record { all = refl; bound = few_lines _; splits = splits_lines_of _; only = only_lines_of _ }
