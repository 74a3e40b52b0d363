use Rattle.std.proofs.Common.{◌≡◌, ℕ, ◌+◌, get_or, rules}
use Rattle.states.specs.States.{minutes_of}
use Rattle.sample_run.specs.Words.{spaced}
use Rattle.sample_run.proofs.Listing.{spaced_more}
use Rattle.sample_run.proofs.words.minutes_words.Goals as goal

pub loop-minutes-init : goal.loop-minutes-init
unfolding spaced
loop-minutes-init g c = c.new-all.ensures.bytes

pub loop-minutes-preserved : goal.loop-minutes-preserved
loop-minutes-preserved g c =
    let k : ℕ = c.loop-minutes.minutes-index in
    let here : get_or c.unwrap_or-minutes-items.result.now k 0 ≡ minutes_of c.args.sheet.now.state (k + 1) = search rules in
    spaced_more (minutes_of c.args.sheet.now.state) k _ _ _ c.loop-minutes.invariant here c.in_ok-write.ensures.bytes
