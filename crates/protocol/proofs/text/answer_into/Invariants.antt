use Rattle.std.proofs.Common.{◌≡◌, ℕ, ◌+◌, ◌*◌, ◌≤◌, List, ◌++◌, length, vec_items, vec_len, vec_capacity}
use Rattle.std.specs.Iterator.Adapters.{enumerate_source, enumerate_count}
use Rattle.lines.specs.Reader.{to_come}
use Rattle.states.specs.States.{lent}
use Rattle.protocol.specs.Conversation.{Answers}
use Rattle.protocol.specs.Desks.{stage}
use Rattle.protocol.proofs.text.answer_into.Given as goal

-- whatever answers the lines to come makes the conversation whole; there are not too many lines; and there is
-- room for the lines to come if there was for all
abbrev pub invariant-loop-index : goal.invariant-loop-index
invariant-loop-index l =
    let room = lent l.initial.minutes l.initial.amounts in
    let number : ℕ = enumerate_count l.index-iterator in
    let lines : List (List ℕ) = to_come (enumerate_source l.index-iterator) in
    let all : List (List ℕ) = to_come (enumerate_source l.initial.index-iterator) in
    (goal.iterator-loop-index).can_next l.index-iterator
    × (goal.iterator-loop-index).is_finite l.index-iterator
    × ((said : List ℕ) × (vec_items l.out ≡ vec_items l.initial.out ++ said)
    × ((rest : List ℕ) → Answers room (number + 1) (stage l.desk) lines rest → Answers room 1 (stage l.initial.desk) all (said ++ rest)))
    × (number + length lines ≤ 65535)
    × (vec_len l.initial.out + 293 * length all ≤ vec_capacity l.initial.out → vec_len l.out + 293 * length lines ≤ vec_capacity l.out)
