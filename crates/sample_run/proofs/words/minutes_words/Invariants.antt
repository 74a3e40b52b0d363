use Rattle.std.proofs.Common.{◌≡◌, string_bytes}
use Rattle.states.specs.States.{minutes_of}
use Rattle.sample_run.specs.Words.{spaced}
use Rattle.sample_run.proofs.words.minutes_words.Given as goal

-- the legs so far are listed
abbrev pub invariant-loop-minutes : goal.invariant-loop-minutes
invariant-loop-minutes g l = string_bytes l.all ≡ spaced (minutes_of l.sheet.state) l.minutes-index
