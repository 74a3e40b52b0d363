-- Hexadecimal and frames taken back: a line is the hexadecimal of one list of bytes, and bytes are the frame of one call.
use Rattle.std.proofs.Common.{◌≡◌, ℕ, ◌+◌, ◌-◌, ◌*◌, ◌/◌, ◌%◌, ◌<◌, cond, eqb, ltb, List, [], ◌∷◌, get_or, ℤ, sym, refl, ap, ◌∙◌, arith, w32, SFits, to_z, of_z}
use mir.ValLaws.{of_z_fits}
use Rattle.std.proofs.lemmas.Int.{to_z-of_z}
use Rattle.std.proofs.lemmas.Bool.Decides.{nat_tests}
use Rattle.hexadecimal.specs.Hex.{digit, hexed}
use Rattle.frames.specs.Frames.{frame_of, Fits}
use Rattle.frames.specs.declared.calls.Call.{Call}
use Rattle.frames.specs.declared.calls.Call.TheVariants.{Open, Bounds, Window, Lift, Total, Close, AddLeg, SetRate}

undigit : ℕ → ℕ
undigit x = cond (ltb x 58) (x - 48) (x - 55)

undigit_digit : (n : ℕ) → undigit (digit n) ≡ n
unfolding undigit
undigit_digit n = grind (arith, nat_tests)

unhexed : List ℕ → List ℕ
unhexed [] = []
unhexed (x ∷ []) = []
unhexed (x ∷ y ∷ line) = (16 * undigit x + undigit y) ∷ unhexed line

unhexed_hexed : (bs : List ℕ) → unhexed (hexed bs) ≡ bs
unfolding unhexed
unhexed_hexed [] = refl
unhexed_hexed (b ∷ bs) =
    let is : 16 * undigit (digit (b / 16)) + undigit (digit (b % 16)) ≡ b =
    omega (arith, undigit_digit (b / 16), undigit_digit (b % 16)) in
    ap (λ x. x ∷ unhexed (hexed bs)) is ∙ ap (λ t. b ∷ t) (unhexed_hexed bs)

pub same_hexed : (bs cs : List ℕ) → hexed bs ≡ hexed cs → bs ≡ cs
same_hexed bs cs e = sym (unhexed_hexed bs) ∙ ap unhexed e ∙ unhexed_hexed cs

-- the number in two bytes, and in four
two : ℕ → ℕ → ℕ
two a b = a * 256 + b

four : ℕ → ℕ → ℕ → ℕ → ℤ
four a b c d = to_z w32 (a * 16777216 + b * 65536 + c * 256 + d)

unframe : List ℕ → Call
unframe bs =
    let word : ℕ → ℕ = λ i. two (get_or bs i 0) (get_or bs (i + 1) 0) in
    cond (eqb (get_or bs 0 0) 0x01) (Open (word 1))
    (cond (eqb (get_or bs 0 0) 0x02) (Bounds (get_or bs 1 0) (word 2) (word 4))
    (cond (eqb (get_or bs 0 0) 0x03) (Window (get_or bs 1 0) (word 2) (word 4))
    (cond (eqb (get_or bs 0 0) 0x04) (Lift (get_or bs 1 0))
    (cond (eqb (get_or bs 0 0) 0x05) (Total (word 1))
    (cond (eqb (get_or bs 0 0) 0x06) Close
    (cond (eqb (get_or bs 0 0) 0x11)
    (AddLeg (word 1) (word 3) (four (get_or bs 5 0) (get_or bs 6 0) (get_or bs 7 0) (get_or bs 8 0)) (word 9) (word 11))
    (SetRate (get_or bs 1 0) (word 2))))))))

two_is : (n : ℕ) → n < 65536 → two (n / 256 % 256) (n % 256) ≡ n
unfolding two
two_is n small = omega arith

joined_bytes : (n x y a b c d : ℕ) → n ≡ x * 256 + d → x ≡ y * 256 + c → y ≡ a * 256 + b →
    a * 16777216 + b * 65536 + c * 256 + d ≡ n
joined_bytes n x y a b c d low mid high = omega arith

four_bytes : (n : ℕ) → n < 4294967296 →
    n / 16777216 % 256 * 16777216 + n / 65536 % 256 * 65536 + n / 256 % 256 * 256 + n % 256 ≡ n
four_bytes n small =
    let mid : n / 65536 ≡ n / 256 / 256 = omega arith in
    let high : n / 16777216 ≡ n / 65536 / 256 = omega arith in
    let top : n / 16777216 < 256 = omega arith in
    joined_bytes n (n / 256) (n / 65536) (n / 16777216 % 256) (n / 65536 % 256) (n / 256 % 256) (n % 256)
    (omega arith) (omega arith) (omega arith)

four_is : (z : ℤ) → SFits w32 z →
    four (of_z w32 z / 16777216 % 256) (of_z w32 z / 65536 % 256) (of_z w32 z / 256 % 256) (of_z w32 z % 256) ≡ z
unfolding four
four_is z fits = ap (to_z w32) (four_bytes (of_z w32 z) (of_z_fits w32 z fits).fits) ∙ to_z-of_z w32 z fits

unframe_frame_of : (c : Call) → Fits c → unframe (frame_of c) ≡ c
unfolding unframe
unframe_frame_of (Open total) fits = simp two_is
unframe_frame_of (Bounds leg low high) (leg-fits, low_fits, high_fits) = simp two_is
unframe_frame_of (Window stop low high) (stop-fits, low_fits, high_fits) = simp two_is
unframe_frame_of (Lift stop) fits = refl
unframe_frame_of (Total total) fits = simp two_is
unframe_frame_of Close fits = refl
unframe_frame_of (AddLeg q t r lo hi) (q-fits, t-fits, r-fits, lo-fits, hi-fits) = simp (two_is, four_is)
unframe_frame_of (SetRate leg rate) (leg-fits, rate-fits) = simp two_is

pub same_frame : (c d : Call) → Fits c → Fits d → frame_of c ≡ frame_of d → c ≡ d
same_frame c d fits-c fits-d e = sym (unframe_frame_of c fits-c) ∙ ap unframe e ∙ unframe_frame_of d fits-d
