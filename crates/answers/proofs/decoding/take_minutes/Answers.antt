use Rattle.std.proofs.Common.{ℕ, ◌+◌, [], ◌∷◌, ◌++◌, List, get_or, map, take, drop, set, sym, ap, ◌∙◌, arith}
use Rattle.std.specs.Int.{w16, from_be_bytes}
use Rattle.std.proofs.lemmas.List.{append_assoc, drop_more, length-map, length-take-le, map_more, set_at}
use Rattle.answers.proofs.decoding.take_minutes.Goals as goal

pub loop-i-preserved : goal.loop-i-preserved
loop-i-preserved c =
    let i : ℕ = c.loop-i.i in
    let n : ℕ = c.from_be_bytes.result in
    let pairs : List (List ℕ) = c.args.pairs.now in
    let rest : List ℕ = drop (i + 1) c.args.minutes.now in
    let front : List ℕ = map (from_be_bytes w16) (take i pairs) in
    let size = length-map (take i pairs) (from_be_bytes w16) ∙ length-take-le i pairs (omega arith) in
    ap (λ ms. set ms i n) (c.loop-i.invariant ∙ ap (λ t. front ++ t) (drop_more c.args.minutes.now i 0 (omega arith)))
    ∙ set_at front (get_or c.args.minutes.now i 0) rest n i size
    ∙ sym (append_assoc front (n ∷ []) rest)
    ∙ ap (λ ms. ms ++ rest) (ap (λ x. front ++ x ∷ []) c.from_be_bytes.ensures ∙ sym (map_more (from_be_bytes w16) pairs i [] (omega arith)))
