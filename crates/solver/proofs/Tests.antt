-- What a test tells, put in other words. Assumes nothing.
use Rattle.std.proofs.Common.{Bool, true, false, MatchBool}

-- what a test tells, put in other words
pub either_way : {A B C D : Type 0} (r : Bool) → MatchBool r A B → (A → C) → (B → D) → MatchBool r C D
either_way true told good bad = good told
either_way false told good bad = bad told
