use Rattle.std.proofs.Common.{◌≡◌, ◌*◌, ◌/◌, ◌<◌, ◌≤◌, length, take, drop, sym, ap, ◌∙◌, subst, arith, rules}
use Rattle.hexadecimal.specs.Hex.{hexed}
use Rattle.hexadecimal.proofs.hex.take_hex.Goals as goal
use Rattle.hexadecimal.proofs.Digits.{pair_digit, read_more, rest_more}
use Rattle.std.proofs.lemmas.List.{take_all}

pub value_of-requires : goal.value_of-requires
value_of-requires c =
    let less : c.loop-i.i < length c.args.line.now / 2 = omega arith in
    pair_digit _ _ c.as_chunks.ensures.front c.loop-i.i less 0 (omega arith) c.requires.digits

pub value_of-requires-in-loop-i : goal.value_of-requires-in-loop-i
value_of-requires-in-loop-i c =
    let less : c.loop-i.i < length c.args.line.now / 2 = omega arith in
    pair_digit _ _ c.as_chunks.ensures.front c.loop-i.i less 1 (omega arith) c.requires.digits

pub loop-i-preserved : goal.loop-i-preserved
loop-i-preserved c =
    let less : c.loop-i.i < length c.args.line.now / 2 = omega arith in (
      read_more _ _ c.as_chunks.ensures.front c.loop-i.i less c.loop-i.place c.value_of.result c.value_of-in-loop-i.result (omega arith)
          c.value_of.ensures c.value_of-in-loop-i.ensures c.loop-i.invariant.0,
      search (rules, rest_more),
    )

pub returns : goal.returns
returns c =
    let all : c.loop-i.i ≡ length c.as_chunks.result.0.now = omega arith in
    let whole : length c.args.line.now ≤ 2 * c.loop-i.i = omega arith in
    record {
      count = omega arith;
      bytes = sym (take_all _ _ whole) ∙ c.loop-i.invariant.0 ∙ ap (λ n. hexed (take n c.loop-i.place)) all;
      same = subst (λ n. drop n c.loop-i.place ≡ drop n c.args.place.now) all c.loop-i.invariant.1;
    }
