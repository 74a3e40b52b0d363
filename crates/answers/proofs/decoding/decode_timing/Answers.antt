use Rattle.std.proofs.Common.{◌≡◌, ℕ, ◌+◌, ◌*◌, ◌<◌, ◌≤◌, [], ◌∷◌, ◌++◌, List, length, map, take, drop, ℤ, sym, refl, ap, ap₂, ◌∙◌, ◌-◌, ◌/◌, arith, w64, SFits, rules}
use Rattle.std.specs.Int.{w16, from_be_bytes}
use Rattle.std.specs.Simd.{first_chunks}
use Rattle.std.specs.List.{AllByRecursion}
use Rattle.std.proofs.ByRecursion.{All-from_get_or, All-take, All-drop}
use Rattle.std.proofs.lemmas.Int.{to_z-of_z}
use Rattle.std.proofs.lemmas.List.{append-nil, append_assoc, take-append-drop, take_at, drop_at, length-drop, length-map}
use Rattle.answers.specs.Spelling.{wide, words}
use Rattle.answers.proofs.Apart.{no_timing}
use Rattle.answers.proofs.Bytes.{read_words, read_wide}
use Rattle.answers.proofs.decoding.decode_timing.Goals as goal
use Rattle.answers.proofs.decoding.decode_timing.Goals.{then-legs-gt64-via-then-legs-gt64, then-legs-gt64-via-else-legs-gt64+then-flown-from}

pub returns-in_err-fields : goal.returns-in_err-fields
returns-in_err-fields c =
    rw c.from_residual.ensures (refl, no_timing c.args.legs c.args.fields.now (λ few size. omega (arith, c.in_err-fields.ensures.cases)))

pub returns-in_err-flown : goal.returns-in_err-flown
returns-in_err-flown c =
    rw c.from_residual-in_err-flown.ensures (refl, no_timing c.args.legs c.args.fields.now (λ few size. omega (arith, c.in_err-flown.ensures.cases, c.in_ok-fields.ensures.cases)))

pub returns-then-legs-gt64 : goal.returns-then-legs-gt64
returns-then-legs-gt64 c =
    let bad : c.args.legs ≤ 64 → length c.args.fields.now ≡ 2 * c.args.legs + 16 → ⊥ =
    λ few size. elim c.then-legs-gt64.branch [
      | then-legs-gt64-via-then-legs-gt64 w ↦ omega (arith, w.if-legs-gt64.true)
      | then-legs-gt64-via-else-legs-gt64+then-flown-from w ↦ omega (arith, w.if-flown-from.true, w.from.ensures, c.in_ok-flown.ensures.cases, c.in_ok-fields.ensures.cases)
    ] in
    (refl, no_timing c.args.legs c.args.fields.now bad)

pub returns : goal.returns
returns c =
    let legs : ℕ = c.args.legs in
    let fields : List ℕ = c.args.fields.now in
    let front : List ℕ = c.in_ok-fields.fields.now in
    let flown : List ℕ = c.in_ok-flown.flown.now in
    let kilograms : List ℕ = c.in_ok-flown.kilograms.now in
    let cents : List ℕ = c.in_ok-fields.cents.now in
    let first = c.in_ok-fields.ensures.cases in
    let second = c.in_ok-flown.ensures.cases in
    let whole : fields ≡ front ++ cents = sym (take-append-drop (length fields - 8) fields) ∙ ap₂ ◌++◌ (sym first.0) (sym first.1) in
    let parts : front ≡ flown ++ kilograms = sym (take-append-drop (length front - 8) front) ∙ ap₂ ◌++◌ (sym second.0) (sym second.1) in
    let small : AllByRecursion (λ b. b < 256) fields = All-from_get_or (λ b. b < 256) fields 0 (λ i less. (c.type_inv.fields i).fits) in
    let small_front : AllByRecursion (λ b. b < 256) front = rw first.0 (All-take (λ b. b < 256) (length fields - 8) fields small) in
    let small_flown : AllByRecursion (λ b. b < 256) flown = rw second.0 (All-take (λ b. b < 256) (length front - 8) front small_front) in
    let small_kilograms : AllByRecursion (λ b. b < 256) kilograms = rw second.1 (All-drop (λ b. b < 256) (length front - 8) front small_front) in
    let small_cents : AllByRecursion (λ b. b < 256) cents = rw first.1 (All-drop (λ b. b < 256) (length fields - 8) fields small) in
    let half : length flown / 2 ≡ legs = omega (arith, c.from.ensures, c.if-flown-from.false) in
    let minutes : List ℕ = map (from_be_bytes w16) (first_chunks 2 legs flown) in
    let pairs = c.as_chunks.ensures.front ∙ ap (λ n. first_chunks 2 n flown) half in
    let after : c.take_minutes.new.minutes ≡ minutes ++ drop legs c.args.minutes.now =
    c.take_minutes.ensures ∙ ap₂ (λ ps n. map (from_be_bytes w16) ps ++ drop n c.args.minutes.now) pairs (c.as_chunks.ensures.front_len ∙ half) in
    let size : length minutes ≡ legs =
    length-map (first_chunks 2 legs flown) (from_be_bytes w16) ∙ ap length (sym pairs) ∙ c.as_chunks.ensures.front_len ∙ half in
    let taken : take legs c.take_minutes.new.minutes ≡ minutes = ap (take legs) after ∙ take_at minutes _ legs size in
    let long : length flown ≡ 2 * legs = omega (arith, c.from.ensures, c.if-flown-from.false) in
    let few : legs ≤ 64 = c.if-legs-gt64.false in
    let read = read_words legs flown (kilograms ++ cents) long small_flown in
    let k : ℤ = c.from_be_bytes.result in
    let b : ℤ = c.from_be_bytes-2.result in
    let fits_k : SFits w64 k = search rules in
    let fits_b : SFits w64 b = search rules in
    let eight_k : length kilograms ≡ 8 = omega (arith, ap length second.1, length-drop (length front - 8) front) in
    let eight_b : length cents ≡ 8 = omega (arith, ap length first.1, length-drop (length fields - 8) fields) in
    let amounts : kilograms ++ cents ≡ wide k (wide b []) =
    read_wide kilograms cents k eight_k small_kilograms c.from_be_bytes.ensures
    ∙ ap (wide k) (sym (append-nil cents) ∙ read_wide cents [] b eight_b small_cents c.from_be_bytes-2.ensures) in
    let is : fields ≡ words minutes (wide k (wide b [])) =
    whole ∙ ap (λ t. t ++ cents) parts ∙ append_assoc flown kilograms cents ∙ read.0 ∙ ap (words minutes) amounts in
    simp (to_z-of_z w64 k fits_k, to_z-of_z w64 b fits_b, taken) (
      ap (λ t. 0x81 ∷ legs ∷ t) is ∙ ap (λ n. 0x81 ∷ n ∷ words minutes (wide k (wide b []))) (sym size),
      (omega arith, read.1, fits_k, fits_b),
      ap (drop legs) after ∙ drop_at minutes _ legs size,
    )
