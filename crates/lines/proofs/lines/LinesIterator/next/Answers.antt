use Rattle.std.proofs.Common.{length, ap, arith, rules}
use Rattle.lines.proofs.lines.LinesIterator.next.Goals as goal
use Rattle.lines.proofs.Cuts.{first_line, no_lines}
use Rattle.std.proofs.iter.Next.{firm}

pub returns-then-is_empty : goal.returns-then-is_empty
returns-then-is_empty c = search (rules, no_lines)

pub returns : goal.returns
returns c =
    let line = first_line c.args.self.now.rest.now c.after-self.result.now c.line_end-end.result
    (search rules) c.line_end-end.ensures.within c.line_end-end.ensures.before c.line_end-end.ensures.found
    c.after-self.ensures in
    record { steps = line; goes = firm ((tt, tt, omega (arith, ap length line))) (λ h. search rules) }
