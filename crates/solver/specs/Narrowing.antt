-- What a stop lacks on the way to its window, and that it is settled.
-- Assumes nothing.
use Rattle.std.specs.Prelude.{◌≡◌, ℕ, ◌-◌, ◌<◌, ◌≤◌, ◌⊎◌, List}
use Rattle.books.specs.Meaning.{Meaning}
use Rattle.books.specs.declared.Ends.{Ends}
use Rattle.optimum.specs.Rotation.{Settings, reached, earliest, latest}
use Rattle.optimum.specs.Method.{Closed}
use Rattle.solver.specs.Plans.{range, los, his}
use Rattle.solver.specs.Steps.{Direction, Up, Down, end_of}

-- the ends that a move moves, and those that it leaves
abbrev pub moving : Direction → List Ends → ℕ → ℕ
moving way es k = end_of way (range es k)

abbrev pub resting : Direction → List Ends → ℕ → ℕ
resting Up es = his es
resting Down es = los es

-- m moves are lacking from where a stop is reached to the lower end of its window w, or to the upper one; where the window
-- shuts no earlier than the total, none are
abbrev pub Lacking : Direction → ℕ → Ends → ℕ → ℕ → Type 0
Lacking Up total w r m = m ≡ w.lo - r
Lacking Down total w r m = ((total ≤ w.hi) × (m ≡ 0)) ⊎ ((w.hi < total) × (m ≡ r - w.hi))

-- m moves are lacking until stop k of n is not reached too early by the lower ends, or too late by the upper ones
abbrev pub Lacks : Direction → ℕ → Settings → List Ends → ℕ → ℕ → Type 0
Lacks way n s es k m = Lacking way s.total (record { lo = earliest n s k; hi = latest n s k }) (reached (moving way es) k) m

-- stop k is not reached too early by the lower ends, or not too late by the upper ones
abbrev pub Settled : Direction → Meaning → Settings → List Ends → ℕ → Type 0
Settled Up b s es k = earliest b.legs s k ≤ reached (los es) k
Settled Down b s es k = Closed b s (his es) k
