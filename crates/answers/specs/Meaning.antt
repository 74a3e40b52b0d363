-- The answer that a value to be written means.
-- Assumes nothing.
use Rattle.std.specs.Prelude.{take}
use Rattle.answers.specs.Spelling.{Reply, done, timing, refused}
use Rattle.answers.specs.declared.kinds.Answer.{Answer}
use Rattle.answers.specs.declared.kinds.Answer.TheVariants.{Done, Timing, Refused}

-- a rotation has at most 64 legs: minutes past the sixty-fourth are no part of the answer
abbrev pub meant : Answer → Reply
meant Done = done
meant (Timing minutes kilograms cents) = timing (take 64 minutes.now) kilograms cents
meant (Refused refusal line) = refused refusal line
