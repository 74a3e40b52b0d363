use Rattle.frames.proofs.Answers.{answer_malformed, answer_decoded, answer_only}
use Rattle.frames.proofs.calls.Call.read.Goals as goal

pub returns-in_default : goal.returns-in_default
returns-in_default c =
    let answer = answer_malformed c.args.line.now c.in_default.ensures.0 in
    record { answer = answer; only = λ other is. answer_only c.args.line.now _ other answer is }

pub returns : goal.returns
returns c =
    let read = c.in-Some.ensures in
    let answer = answer_decoded c.args.line.now _ c.decode.result read.0 read.2 c.decode.ensures in
    record { answer = answer; only = λ other is. answer_only c.args.line.now _ other answer is }
