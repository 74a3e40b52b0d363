-- What a line that was read says.
-- Assumes nothing.
use Rattle.std.specs.Prelude.{◌≡◌, ℕ, List, take, drop, Option, MatchOption, ◌≢◌}
use Rattle.answers.specs.Spelling.{Reply, done, timing, refused, answer_bytes, Fits, Spells}
use Rattle.answers.specs.declared.kinds.Reading.{Reading}
use Rattle.answers.specs.declared.kinds.Reading.TheVariants.{Done, Timing, Refused}

-- the answer that was read, where the minutes of its legs stand at the start of a place
abbrev pub heard : Reading → List ℕ → Reply
heard Done place = done
heard (Timing legs kilograms cents) place = timing (take legs place) kilograms cents
heard (Refused refusal line) place = refused refusal line

-- how many minutes it left in that place
abbrev pub filled : Reading → ℕ
filled Done = 0
filled (Timing legs kilograms cents) = legs
filled (Refused refusal line) = 0

-- a line read with a place for minutes, which held `before` and holds `after`: the line spells the answer, and the place is as it was
-- past its minutes; or none, and the place is as it was
abbrev pub Reads : List ℕ → List ℕ → Option Reading → List ℕ → Type 0
Reads line before r after =
    MatchOption r (after ≡ before) (λ reading. Spells line (heard reading after) × (drop (filled reading) after ≡ drop (filled reading) before))

-- bytes read as an answer, with a place for minutes: they are that answer's, whose numbers fit, and the place is as it was past its
-- minutes; or they are no answer's, and the place is as it was
abbrev pub Decodes : List ℕ → List ℕ → Option Reading → List ℕ → Type 0
Decodes bytes before r after =
    MatchOption r ((after ≡ before) × ((reply : Reply) → Fits reply → bytes ≢ answer_bytes reply))
    (λ reading. (bytes ≡ answer_bytes (heard reading after)) × Fits (heard reading after) × (drop (filled reading) after ≡ drop (filled reading) before))

-- the line is read as this answer
abbrev pub ReadAs : Option Reading → List ℕ → Reply → Type 0
ReadAs r after reply = MatchOption r ⊥ (λ reading. heard reading after ≡ reply)
