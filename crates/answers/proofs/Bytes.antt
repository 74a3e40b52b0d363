-- Lemmas on the bytes of an answer: numbers one after the other, written and read.
use Rattle.std.proofs.Common.{◌≡◌, ℕ, ◌+◌, ◌*◌, ◌^◌, ◌<◌, ◌≤◌, min, List, [], ◌∷◌, ◌++◌, length, get_or, map, take, ℤ, sym, refl, ap, ◌∙◌, inl, inr, arith, ap₂, lit<, w64, of_z, to_z, zero, suc, ◌/◌, ◌%◌}
use Rattle.std.specs.Int.{w16, from_be_bytes}
use Rattle.std.specs.List.{AllByRecursion}
use Rattle.std.specs.Simd.{first_chunks}
use Rattle.std.proofs.lemmas.Bool.{cases_lt}
use Rattle.std.proofs.lemmas.Int.{of_z-to_z}
use Rattle.std.proofs.lemmas.List.{append_assoc, get_or_past, take_all, take_more}
use Rattle.std.proofs.lemmas.Nat.{be_bytes_8}
use Rattle.std.proofs.ByRecursion.{All-get_or}
use Rattle.frames.specs.Frames.{word}
use Rattle.answers.specs.Spelling.{wide, words}

words_end : (ns rest : List ℕ) → words ns rest ≡ words ns [] ++ rest
words_end [] rest = refl
words_end (n ∷ ns) rest = ap (word n) (words_end ns rest)

words_push : (ns : List ℕ) (n : ℕ) (rest : List ℕ) → words (ns ++ n ∷ []) rest ≡ words ns (word n rest)
words_push [] n rest = refl
words_push (m ∷ ns) n rest = ap (word m) (words_push ns n rest)

pub words_more : (ns : List ℕ) (i : ℕ) → i < length ns → words (take (i + 1) ns) [] ≡ words (take i ns) [] ++ word (get_or ns i 0) []
words_more ns i less =
    ap (λ ms. words ms []) (take_more ns i 0 less) ∙ words_push (take i ns) (get_or ns i 0) [] ∙ words_end (take i ns) (word (get_or ns i 0) [])

-- the first 64 of a list, by the lesser of 64 and its length
pub first_legs : (ns : List ℕ) (n : ℕ) → n ≡ min (length ns) 64 → take n ns ≡ take 64 ns
first_legs ns n is =
    elim (cases_lt (length ns) 64) [
      | inl few ↦ take_all n ns (omega arith) ∙ sym (take_all 64 ns (omega arith))
      | inr many ↦ let all : n ≡ 64 = omega arith in ap (λ k. take k ns) all
    ]

-- the parts of a timing, put one after the other
pub parts_joined : (ns : List ℕ) (i : ℕ) (kilograms cents : ℤ) → length ns ≤ i →
    (words (take i ns) [] ++ wide kilograms []) ++ wide cents [] ≡ words ns (wide kilograms (wide cents []))
parts_joined ns i kilograms cents all =
    append_assoc (words (take i ns) []) (wide kilograms []) (wide cents [])
    ∙ ap (λ ms. words ms [] ++ wide kilograms (wide cents [])) (take_all i ns all)
    ∙ sym (words_end ns (wide kilograms (wide cents [])))

-- numbers that are read from bytes, two each: the bytes spell them, and they fit
pub read_words : (k : ℕ) (bs rest : List ℕ) → length bs ≡ 2 * k → AllByRecursion (λ b. b < 256) bs →
    (bs ++ rest ≡ words (map (from_be_bytes w16) (first_chunks 2 k bs)) rest) × AllByRecursion (λ n. n < 65536) (map (from_be_bytes w16) (first_chunks 2 k bs))
read_words zero [] rest long small = (refl, tt)
read_words zero (a ∷ bs) rest long small = absurd (omega arith)
read_words (suc k) [] rest long small = absurd (omega arith)
read_words (suc k) (a ∷ []) rest long small = absurd (omega arith)
read_words (suc k) (a ∷ b ∷ bs) rest long small =
    let more = read_words k bs rest (omega arith) small.1.1 in
    let low = small.0 in
    let high = small.1.0 in
    let first : a ≡ (a * 256 + b) / 256 % 256 = omega arith in
    let second : b ≡ (a * 256 + b) % 256 = omega arith in
    (ap (λ x. x ∷ b ∷ (bs ++ rest)) first ∙ ap₂ (λ x t. ((a * 256 + b) / 256 % 256) ∷ x ∷ t) second more.0, (omega arith, more.1))

small_at : (bs : List ℕ) → AllByRecursion (λ b. b < 256) bs → (i : ℕ) → get_or bs i 0 < 256
small_at bs small i =
    elim (cases_lt i (length bs)) [
      | inl within ↦ All-get_or (λ b. b < 256) bs i 0 within small
      | inr past ↦ rw get_or_past (lit< tt)
    ]

-- a number with its sign that is read from eight bytes: they spell it
pub read_wide : (bs rest : List ℕ) (z : ℤ) → length bs ≡ 8 → AllByRecursion (λ b. b < 256) bs → z ≡ to_z w64 (from_be_bytes w64 bs) → bs ++ rest ≡ wide z rest
read_wide bs rest z long small is =
    let at = small_at bs small in
    let fits : from_be_bytes w64 bs < 2 ^ 64 = omega (arith, at 0, at 1, at 2, at 3, at 4, at 5, at 6, at 7) in
    ap (λ t. t ++ rest) (sym (be_bytes_8 bs (of_z w64 z) long at (ap (of_z w64) is ∙ of_z-to_z w64 (from_be_bytes w64 bs) fits)))
