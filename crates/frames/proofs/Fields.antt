-- Lemmas on the bytes of a frame: what stands at its places is the frame of the call that is read there.
use Rattle.std.proofs.Common.{◌≡◌, ℕ, ◌+◌, ◌*◌, ◌/◌, ◌%◌, ◌<◌, List, [], ◌∷◌, length, get_or, drop, ℤ, ap, ◌∙◌, arith, w8, w32, Fits, to_z, of_z}
use Rattle.std.proofs.lemmas.List.{drop_all, drop_more}
use Rattle.std.proofs.lemmas.Int.{of_z-to_z}
use Rattle.frames.specs.Frames.{word, long}

module _ (bs : List ℕ) (typed : (k : ℕ) → Fits w8 (get_or bs k 0)) where
  byte_at : (i b : ℕ) {rest : List ℕ} → i < length bs → get_or bs i 0 ≡ b → drop (i + 1) bs ≡ rest → drop i bs ≡ b ∷ rest
  byte_at i b room is then = drop_more bs i 0 room ∙ ap (λ x. x ∷ drop (i + 1) bs) is ∙ ap (λ t. b ∷ t) then

  word_at : (i n : ℕ) {rest : List ℕ} → i + 1 < length bs → n ≡ get_or bs i 0 * 256 + get_or bs (i + 1) 0 →
      drop (i + 1 + 1) bs ≡ rest → drop i bs ≡ word n rest
  word_at i n room is then =
      byte_at i (n / 256 % 256) (omega arith) (omega (arith, (typed i).fits, (typed (i + 1)).fits))
      (byte_at (i + 1) (n % 256) room (omega (arith, (typed i).fits, (typed (i + 1)).fits)) then)

  long-at : (i : ℕ) (z : ℤ) {rest : List ℕ} → i + 1 + 1 + 1 < length bs →
      z ≡ to_z w32 (get_or bs i 0 * 16777216 + get_or bs (i + 1) 0 * 65536 + get_or bs (i + 1 + 1) 0 * 256 + get_or bs (i + 1 + 1 + 1) 0) →
      drop (i + 1 + 1 + 1 + 1) bs ≡ rest → drop i bs ≡ long z rest
  long-at i z room is then =
      let a = (typed i).fits in
      let b = (typed (i + 1)).fits in
      let c = (typed (i + 1 + 1)).fits in
      let d = (typed (i + 1 + 1 + 1)).fits in
      let n = ap (of_z w32) is ∙ of_z-to_z w32
      (get_or bs i 0 * 16777216 + get_or bs (i + 1) 0 * 65536 + get_or bs (i + 1 + 1) 0 * 256 + get_or bs (i + 1 + 1 + 1) 0)
      (omega arith) in
      byte_at i (of_z w32 z / 16777216 % 256) (omega arith) (omega arith)
      (byte_at (i + 1) (of_z w32 z / 65536 % 256) (omega arith) (omega arith)
      (byte_at (i + 1 + 1) (of_z w32 z / 256 % 256) (omega arith) (omega arith)
      (byte_at (i + 1 + 1 + 1) (of_z w32 z % 256) room (omega arith) then)))

  -- the frame of a formula
  pub formula_frame : (k q t : ℕ) (r : ℤ) (lo hi : ℕ) → length bs ≡ 13 → get_or bs 0 0 ≡ k →
      q ≡ get_or bs 1 0 * 256 + get_or bs 2 0 → t ≡ get_or bs 3 0 * 256 + get_or bs 4 0 →
      r ≡ to_z w32 (get_or bs 5 0 * 16777216 + get_or bs 6 0 * 65536 + get_or bs 7 0 * 256 + get_or bs 8 0) →
      lo ≡ get_or bs 9 0 * 256 + get_or bs 10 0 → hi ≡ get_or bs 11 0 * 256 + get_or bs 12 0 →
      bs ≡ k ∷ word q (word t (long r (word lo (word hi []))))
  formula_frame k q t r lo hi size kind is-q is-t is-r is-lo is-hi =
      byte_at 0 k (omega arith) kind
      (word_at 1 q (omega arith) is-q
      (word_at 3 t (omega arith) is-t
      (long-at 5 r (omega arith) is-r
      (word_at 9 lo (omega arith) is-lo (word_at 11 hi (omega arith) is-hi (drop_all 13 bs (omega arith)))))))
