-- Lemmas on hexadecimal: its length, one byte more, the two characters of one turn of a loop, and that it is digits.
use Rattle.std.proofs.Common.{◌≡◌, ℕ, zero, suc, ◌+◌, ◌*◌, ◌/◌, ◌%◌, ◌<◌, ◌≤◌, List, [], ◌∷◌, ◌++◌, length, get_or, take, drop, set, sym, refl, ap, subst, ◌∙◌, inl, inr, arith}
use Rattle.std.specs.List.{AllByRecursion}
use Rattle.std.specs.Simd.{first_chunks}
use Rattle.std.proofs.lemmas.Bool.{cases_lt, le-ltb, lt-ltb}
use Rattle.std.proofs.lemmas.List.{append_assoc, get_or-take, get_or-drop, drop-drop, drop_more, drop-set-lt, set_at, take_more, take_more_set, length_push, length-take-le}
use Rattle.hexadecimal.specs.Hex.{digit, Digit, Digits, hexed, Stands}

pub length-hexed : (bs : List ℕ) → length (hexed bs) ≡ 2 * length bs
length-hexed [] = refl
length-hexed (b ∷ bs) = omega (arith, length-hexed bs)

-- one byte more is two characters more
hexed_push : (bs : List ℕ) (b : ℕ) → hexed (bs ++ b ∷ []) ≡ hexed bs ++ digit (b / 16) ∷ digit (b % 16) ∷ []
hexed_push [] b = refl
hexed_push (x ∷ bs) b = ap (λ t. digit (x / 16) ∷ digit (x % 16) ∷ t) (hexed_push bs b)

-- two characters written past h, what follows as it was
put_two : (h e : List ℕ) (n a b : ℕ) → length h ≡ n → n + 1 < length e →
    set (set (h ++ drop n e) n a) (n + 1) b ≡ (h ++ a ∷ b ∷ []) ++ drop (n + 2) e
put_two h e n a b long room =
    let less : n < length e = omega arith in
    let more : length (h ++ a ∷ []) ≡ n + 1 = omega (arith, length_push h a) in
    let next : n + 1 + 1 ≡ n + 2 = omega arith in
    ap (λ t. set (set (h ++ t) n a) (n + 1) b) (drop_more e n 0 less)
    ∙ ap (λ t. set t (n + 1) b) (set_at h (get_or e n 0) (drop (n + 1) e) a n long)
    ∙ ap (λ t. set (h ++ a ∷ t) (n + 1) b) (drop_more e (n + 1) 0 room)
    ∙ ap (λ t. set t (n + 1) b) (sym (append_assoc h (a ∷ []) (get_or e (n + 1) 0 ∷ drop (n + 1 + 1) e)))
    ∙ set_at (h ++ a ∷ []) (get_or e (n + 1) 0) (drop (n + 1 + 1) e) b (n + 1) more
    ∙ ap (λ k. (h ++ a ∷ []) ++ b ∷ drop k e) next
    ∙ append_assoc h (a ∷ []) (b ∷ drop (n + 2) e)
    ∙ sym (append_assoc h (a ∷ b ∷ []) (drop (n + 2) e))

take-two : (xs : List ℕ) (n : ℕ) → n + 1 < length xs → take (n + 2) xs ≡ take n xs ++ get_or xs n 0 ∷ get_or xs (n + 1) 0 ∷ []
take-two xs n room =
    let less : n < length xs = omega arith in
    let next : n + 2 ≡ n + 1 + 1 = omega arith in
    ap (λ k. take k xs) next
    ∙ take_more xs (n + 1) 0 room
    ∙ ap (λ t. t ++ get_or xs (n + 1) 0 ∷ []) (take_more xs n 0 less)
    ∙ append_assoc (take n xs) (get_or xs n 0 ∷ []) (get_or xs (n + 1) 0 ∷ [])

-- one turn of writing
pub written_more : (bs e p : List ℕ) (i : ℕ) → i < length bs → 2 * length bs ≤ length e →
    p ≡ hexed (take i bs) ++ drop (2 * i) e →
    set (set p (2 * i) (digit (get_or bs i 0 / 16))) (2 * i + 1) (digit (get_or bs i 0 % 16))
    ≡ hexed (take (i + 1) bs) ++ drop (2 * (i + 1)) e
written_more bs e p i less room is =
    let x : ℕ = get_or bs i 0 in
    let long : length (hexed (take i bs)) ≡ 2 * i =
    omega (arith, length-hexed (take i bs), length-take-le i bs (omega arith)) in
    let enough : 2 * i + 1 < length e = omega arith in
    let next : 2 * i + 2 ≡ 2 * (i + 1) = omega arith in
    ap (λ t. set (set t (2 * i) (digit (x / 16))) (2 * i + 1) (digit (x % 16))) is
    ∙ put_two (hexed (take i bs)) e (2 * i) (digit (x / 16)) (digit (x % 16)) long enough
    ∙ ap (λ t. t ++ drop (2 * i + 2) e) (sym (hexed_push (take i bs) x) ∙ ap hexed (sym (take_more bs i 0 less)))
    ∙ ap (λ k. hexed (take (i + 1) bs) ++ drop k e) next

-- the characters of a pair
pub pair_at : (line : List ℕ) (k i j : ℕ) → i < k → j < 2 → get_or (get_or (first_chunks 2 k line) i []) j 0 ≡ get_or line (2 * i + j) 0
pair_at line zero i j less small = absurd (omega arith)
pair_at line (suc k) zero j less small = get_or-take 2 line j 0 small ∙ ap (λ n. get_or line n 0) (omega arith)
pair_at line (suc k) (suc i) j less small =
    pair_at (drop 2 line) k i j (omega arith) small ∙ get_or-drop 2 line (2 * i + j) 0
    ∙ ap (λ n. get_or line n 0) (omega arith)

module _ (line : List ℕ) (pairs : List (List ℕ)) (are : pairs ≡ first_chunks 2 (length line / 2) line) (i : ℕ) (less : i < length line / 2) where
  pair_is : (j : ℕ) → j < 2 → get_or (get_or pairs i []) j 0 ≡ get_or line (2 * i + j) 0
  pair_is j small = ap (λ ps. get_or (get_or ps i []) j 0) are ∙ pair_at line (length line / 2) i j less small

  pub pair_digit : (j : ℕ) → j < 2 → Digits line → Digit (get_or (get_or pairs i []) j 0)
  pair_digit j small digits = subst Digit (sym (pair_is j small)) (digits (2 * i + j) (omega arith))

  -- one turn of reading
  pub read_more : (p : List ℕ) (h l : ℕ) → i < length p →
      Stands (get_or (get_or pairs i []) 0 0) h → Stands (get_or (get_or pairs i []) 1 0) l →
      take (2 * i) line ≡ hexed (take i p) → take (2 * (i + 1)) line ≡ hexed (take (i + 1) (set p i (16 * h + l)))
  read_more p h l inside high low is =
      let first : get_or line (2 * i) 0 ≡ digit h =
      ap (λ k. get_or line k 0) (omega arith) ∙ sym (pair_is 0 (omega arith)) ∙ high.1 in
      let second : get_or line (2 * i + 1) 0 ≡ digit l = sym (pair_is 1 (omega arith)) ∙ low.1 in
      let top : h ≡ (16 * h + l) / 16 = omega (arith, high.0, low.0) in
      let rest : l ≡ (16 * h + l) % 16 = omega (arith, high.0, low.0) in
      let next : 2 * (i + 1) ≡ 2 * i + 2 = omega arith in
      ap (λ k. take k line) next
      ∙ take-two line (2 * i) (omega arith)
      ∙ ap (λ t. t ++ get_or line (2 * i) 0 ∷ get_or line (2 * i + 1) 0 ∷ []) is
      ∙ ap (λ x. hexed (take i p) ++ x ∷ get_or line (2 * i + 1) 0 ∷ []) (first ∙ ap digit top)
      ∙ ap (λ x. hexed (take i p) ++ digit ((16 * h + l) / 16) ∷ x ∷ []) (second ∙ ap digit rest)
      ∙ sym (hexed_push (take i p) (16 * h + l))
      ∙ ap hexed (sym (take_more_set p i (16 * h + l) inside))

-- what follows stays as it was
pub rest_more : (p e : List ℕ) (i v : ℕ) → drop i p ≡ drop i e → drop (i + 1) (set p i v) ≡ drop (i + 1) e
rest_more p e i v same =
    let less : i < i + 1 = omega arith in
    drop-set-lt (i + 1) p i v less ∙ sym (drop-drop 1 i p) ∙ ap (drop 1) same ∙ drop-drop 1 i e

-- and bytes are written in digits
digit_is : (n : ℕ) → n < 16 → Digit (digit n)
digit_is n small = elim (cases_lt n 10) [
  | inl low ↦ rw (lt-ltb n 10 low) (inl (omega arith, omega arith))
  | inr high ↦ rw (le-ltb n 10 high) (inr (omega arith, omega arith))
]

pub digits_hexed : (bs : List ℕ) → AllByRecursion (λ b. b < 256) bs → Digits (hexed bs)
digits_hexed [] small k less = absurd (omega arith)
digits_hexed (b ∷ bs) small zero less = digit_is (b / 16) (omega (arith, small.0))
digits_hexed (b ∷ bs) small (suc zero) less = digit_is (b % 16) (omega arith)
digits_hexed (b ∷ bs) small (suc (suc k)) less = digits_hexed bs small.1 k (omega arith)
