use Rattle.std.proofs.Common.{◌≡◌, ℕ, ◌<◌, List, [], ◌∷◌, ◌++◌, length, take, sym, ap, ap₂, ◌∙◌, arith, w64}
use Rattle.std.proofs.lemmas.Int.{to_z-of_z}
use Rattle.std.proofs.lemmas.List.{length-take}
use Rattle.std.proofs.ByRecursion.{All-from_get_or, All-take}
use Rattle.answers.specs.Spelling.{wide, words}
use Rattle.answers.proofs.Bytes.{words_more, first_legs, parts_joined}
use Rattle.answers.proofs.encoding.timing_bytes.Goals as goal

pub loop-minute-preserved : goal.loop-minute-preserved
loop-minute-preserved c =
    let i : ℕ = c.loop-minute.minute-index in
    let flown : List ℕ = take c.min.result c.args.minutes.now in (
      omega (arith, ap length c.to_be_bytes.ensures),
      c.put-in-loop-minute.ensures.items
          ∙ ap₂ ◌++◌ c.loop-minute.invariant.1 c.to_be_bytes.ensures
          ∙ ap (λ t. 0x81 ∷ length flown ∷ t) (sym (words_more flown i c.loop-minute-test.true)),
    )

pub returns-clause-bytes : goal.returns-clause-bytes
returns-clause-bytes c =
    let flown : List ℕ = take c.min.result c.args.minutes.now in
    let kilograms : c.to_be_bytes-2.result ≡ wide c.args.kilograms [] =
    simp (to_z-of_z w64 c.args.kilograms c.ranges.kilograms) at c.to_be_bytes-2.ensures in
    let cents : c.to_be_bytes-3.result ≡ wide c.args.cents [] =
    simp (to_z-of_z w64 c.args.cents c.ranges.cents) at c.to_be_bytes-3.ensures in
    let first : flown ≡ take 64 c.args.minutes.now = first_legs c.args.minutes.now c.min.result c.min.ensures in
    c.put-3.ensures.items
    ∙ ap₂ ◌++◌ (c.put-2.ensures.items ∙ ap₂ ◌++◌ c.loop-minute.invariant.1 kilograms) cents
    ∙ ap (λ t. 0x81 ∷ length flown ∷ t) (parts_joined flown c.loop-minute.minute-index c.args.kilograms c.args.cents c.loop-minute-test.false)
    ∙ ap (λ ns. 0x81 ∷ length ns ∷ words ns (wide c.args.kilograms (wide c.args.cents []))) first

pub returns-clause-fits : goal.returns-clause-fits
returns-clause-fits c = (
  omega (arith, length-take 64 c.args.minutes.now),
  All-take (λ m. m < 65536) 64 c.args.minutes.now (All-from_get_or (λ m. m < 65536) c.args.minutes.now 0 (λ i less. (c.type_inv.minutes i).fits)),
  c.ranges.kilograms,
  c.ranges.cents,
)
