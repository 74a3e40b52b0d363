use Rattle.std.proofs.Common.{ℕ, ◌+◌, ◌≤◌, List, ◌++◌, length, string_bytes}
use Rattle.lines.specs.Lines.{lines_of}
use Rattle.lines.specs.Reader.{to_come}
use Rattle.frame_reader.specs.Words.{Reports}
use Rattle.frame_reader.proofs.words.report.Given as goal

-- whatever is said of the lines to come makes the report whole, and the number of the line is not past the text
abbrev pub invariant-loop-index : goal.invariant-loop-index
invariant-loop-index l =
    ((rest : List ℕ) → Reports (l.index-iterator.count + 1) (to_come l.index-iterator.iter) rest →
    Reports 1 (lines_of l.text) (string_bytes l.all ++ rest))
    × (l.index-iterator.count + length (to_come l.index-iterator.iter) ≤ length l.text)
