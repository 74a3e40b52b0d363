-- Answers taken back from their lines: no two answers share one, and each is well formed.
use Rattle.std.proofs.Common.{◌≡◌, ℕ, ◌+◌, ◌*◌, ◌<◌, ◌≤◌, List, [], ◌∷◌, length, get_or, drop, ℤ, Some, None, Option, sym, refl, ap, ◌∙◌, arith, w64, SFits, to_z, of_z}
use mir.ValLaws.{of_z_fits}
use Rattle.std.specs.Int.{from_be_bytes}
use Rattle.std.specs.List.{AllByRecursion}
use Rattle.std.proofs.lemmas.Int.{to_z-of_z}
use Rattle.std.proofs.lemmas.Nat.{from_be_bytes-to_be_bytes_8}
use Rattle.board.specs.Layers.{code}
use Rattle.board.specs.declared.Layer.{Layer}
use Rattle.board.specs.declared.Layer.TheVariants.{Frame, Book, Sheet}
use Rattle.board.specs.declared.Refusal.{Refusal}
use Rattle.hexadecimal.specs.Hex.{hexed, WellFormed}
use Rattle.hexadecimal.proofs.Digits.{digits_hexed, length-hexed}
use Rattle.frames.proofs.Inverse.{same_hexed}
use Rattle.answers.specs.Heard.{Decodes, ReadAs, heard}
use Rattle.answers.specs.Spelling.{Reply, done, timing, refused, wide, words, answer_bytes, spelled, Fits, Spells}
use Rattle.answers.specs.declared.kinds.Reading.{Reading}

-- the number with its sign in eight bytes
unwide : List ℕ → ℤ
unwide bs = to_z w64 (from_be_bytes w64 bs)

unwide_wide : (z : ℤ) (rest : List ℕ) → SFits w64 z → unwide (wide z rest) ≡ z
unfolding unwide
unwide_wide z rest fits = ap (to_z w64) (from_be_bytes-to_be_bytes_8 (of_z w64 z) (of_z_fits w64 z fits).fits) ∙ to_z-of_z w64 z fits

same_wide : (y z : ℤ) (s t : List ℕ) → SFits w64 y → SFits w64 z → wide y s ≡ wide z t → (y ≡ z) × (s ≡ t)
same_wide y z s t fits-y fits-z e = (sym (unwide_wide y s fits-y) ∙ ap unwide e ∙ unwide_wide z t fits-z, ap (drop 8) e)

same_words : (ms ns s t : List ℕ) → length ms ≡ length ns → AllByRecursion (λ m. m < 65536) ms → AllByRecursion (λ n. n < 65536) ns →
    words ms s ≡ words ns t → (ms ≡ ns) × (s ≡ t)
same_words [] [] s t long small-m small_n e = (refl, e)
same_words [] (n ∷ ns) s t long small-m small_n e = absurd (omega arith)
same_words (m ∷ ms) [] s t long small-m small_n e = absurd (omega arith)
same_words (m ∷ ms) (n ∷ ns) s t long small-m small_n e =
    let first : m ≡ n =
    omega (arith, small-m.0, small_n.0, ap (λ bs. get_or bs 0 0) e, ap (λ bs. get_or bs 1 0) e) in
    let rest = same_words ms ns s t (omega arith) small-m.1 small_n.1 (ap (drop 2) e) in
    (ap (λ x. x ∷ ms) first ∙ ap (λ xs. n ∷ xs) rest.0, rest.1)

same_code : (k l : Layer) → code k ≡ code l → k ≡ l
same_code Frame Frame e = refl
same_code Frame Book e = absurd (omega arith)
same_code Frame Sheet e = absurd (omega arith)
same_code Book Frame e = absurd (omega arith)
same_code Book Book e = refl
same_code Book Sheet e = absurd (omega arith)
same_code Sheet Frame e = absurd (omega arith)
same_code Sheet Book e = absurd (omega arith)
same_code Sheet Sheet e = refl

same_refusal : (r s : Refusal) → r.number ≡ s.number → r.layer ≡ s.layer → r.leg ≡ s.leg → r ≡ s
same_refusal r s number layer leg = λ i. record { number = number i; layer = layer i; leg = leg i }

same_bytes : (p q : Reply) → Fits p → Fits q → answer_bytes p ≡ answer_bytes q → p ≡ q
same_bytes done done fits-p fits-q e = refl
same_bytes done (timing ns k c) fits-p fits-q e = absurd (omega (arith, ap (λ bs. get_or bs 0 0) e))
same_bytes done (refused s m) fits-p fits-q e = absurd (omega (arith, ap (λ bs. get_or bs 0 0) e))
same_bytes (timing ms j b) done fits-p fits-q e = absurd (omega (arith, ap (λ bs. get_or bs 0 0) e))
same_bytes (timing ms j b) (timing ns k c) (few-m, small-m, fits-j, fits-b) (few-n, small_n, fits-k, fits-c) e =
    let minutes = same_words ms ns _ _ (ap (λ bs. get_or bs 1 0) e) small-m small_n (ap (drop 2) e) in
    let kilograms = same_wide j k _ _ fits-j fits-k minutes.1 in
    let cents = same_wide b c _ _ fits-b fits-c kilograms.1 in
    λ i. timing (minutes.0 i) (kilograms.0 i) (cents.0 i)
same_bytes (timing ms j b) (refused s m) fits-p fits-q e = absurd (omega (arith, ap (λ bs. get_or bs 0 0) e))
same_bytes (refused r l) done fits-p fits-q e = absurd (omega (arith, ap (λ bs. get_or bs 0 0) e))
same_bytes (refused r l) (timing ns k c) fits-p fits-q e = absurd (omega (arith, ap (λ bs. get_or bs 0 0) e))
same_bytes (refused r l) (refused s m) (number-r, leg-r, line-l) (number-s, leg-s, line-m) e =
    let line : l ≡ m = omega (arith, ap (λ bs. get_or bs 4 0) e, ap (λ bs. get_or bs 5 0) e) in
    let refusal = same_refusal r s (ap (λ bs. get_or bs 1 0) e) (same_code r.layer s.layer (ap (λ bs. get_or bs 2 0) e)) (ap (λ bs. get_or bs 3 0) e) in
    λ i. refused (refusal i) (line i)

pub same_reply : (p q : Reply) → Fits p → Fits q → spelled p ≡ spelled q → p ≡ q
same_reply p q fits-p fits-q e = same_bytes p q fits-p fits-q (same_hexed (answer_bytes p) (answer_bytes q) e)

-- bytes
abbrev Small : List ℕ → Type 0
Small = AllByRecursion (λ b. b < 256)

small_words : (ns rest : List ℕ) → Small rest → Small (words ns rest)
small_words [] rest small = small
small_words (n ∷ ns) rest small = (omega arith, (omega arith, small_words ns rest small))

small_wide : (z : ℤ) (rest : List ℕ) → Small rest → Small (wide z rest)
small_wide z rest small =
    (omega arith, (omega arith, (omega arith, (omega arith, (omega arith, (omega arith, (omega arith, (omega arith, small))))))))

small_code : (l : Layer) → code l < 256
small_code Frame = omega arith
small_code Book = omega arith
small_code Sheet = omega arith

small_bytes : (reply : Reply) → Fits reply → Small (answer_bytes reply)
small_bytes done fits = (omega arith, tt)
small_bytes (timing minutes kilograms cents) fits =
    (omega arith, (omega (arith, fits.0), small_words minutes (wide kilograms (wide cents [])) (small_wide kilograms (wide cents []) (small_wide cents [] tt))))
small_bytes (refused refusal line) fits =
    (omega arith, (fits.0, (small_code refusal.layer, (fits.1, (omega arith, (omega arith, tt))))))

length-words : (ns rest : List ℕ) → length (words ns rest) ≡ 2 * length ns + length rest
length-words [] rest = omega arith
length-words (n ∷ ns) rest = omega (arith, length-words ns rest)

-- a list of fields that is too long or too short is no timing's
pub no_timing : (legs : ℕ) (fields : List ℕ) → (legs ≤ 64 → length fields ≡ 2 * legs + 16 → ⊥) →
    (reply : Reply) → Fits reply → 0x81 ∷ legs ∷ fields ≡ answer_bytes reply → ⊥
no_timing legs fields bad done fits e = omega (arith, ap (λ bs. get_or bs 0 0) e)
no_timing legs fields bad (timing minutes kilograms cents) fits e =
    let count : legs ≡ length minutes = ap (λ bs. get_or bs 1 0) e in
    let size : length fields ≡ 2 * length minutes + 16 =
    ap (λ bs. length (drop 2 bs)) e ∙ length-words minutes (wide kilograms (wide cents [])) in
    bad (omega (arith, fits.0)) (omega arith)
no_timing legs fields bad (refused refusal line) fits e = omega (arith, ap (λ bs. get_or bs 0 0) e)

short : (reply : Reply) → Fits reply → length (answer_bytes reply) ≤ 146
short done fits = omega arith
short (timing minutes kilograms cents) fits = omega (arith, fits.0, length-words minutes (wide kilograms (wide cents [])))
short (refused refusal line) fits = omega arith

some : (reply : Reply) → 0 < length (answer_bytes reply)
some done = omega arith
some (timing minutes kilograms cents) = omega arith
some (refused refusal line) = omega arith

pub well_formed : (reply : Reply) → Fits reply → WellFormed 292 (spelled reply)
well_formed reply fits =
    let size : length (spelled reply) ≡ 2 * length (answer_bytes reply) = length-hexed (answer_bytes reply) in
    let most = short reply fits in
    let least = some reply in
    record { some = omega arith; short = omega arith; even = omega arith; digits = digits_hexed (answer_bytes reply) (small_bytes reply fits) }

-- a line is read as the answer that it spells, if its bytes are
pub read_bytes : (line bytes before : List ℕ) (r : Option Reading) (after : List ℕ) → line ≡ hexed bytes → Decodes bytes before r after →
    (reply : Reply) → Spells line reply → ReadAs r after reply
read_bytes line bytes before None after is read reply spells =
    read.1 reply spells.fits (same_hexed bytes (answer_bytes reply) (sym is ∙ spells.is))
read_bytes line bytes before (Some reading) after is read reply spells =
    same_reply (heard reading after) reply read.1 spells.fits (sym (is ∙ ap hexed read.0) ∙ spells.is)
