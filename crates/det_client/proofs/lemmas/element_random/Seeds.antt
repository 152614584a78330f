-- The first state of a key is never all zero, so it is the first four outputs of SplitMix64.
use Rattle.std.proofs.Common.{◌≡◌, ℕ, ◌*◌, ◌/◌, ◌%◌, ◌^◌, ◌<◌, List, [], ◌∷◌, ◌++◌, Bool, true, false, cond, eqb, ◌&&◌, refl, sym, ap, ◌∙◌}
use Rattle.std.proofs.Common.{arith}
use lib.Bits.{bit_xor, xor_assoc, xor_self, xor_zero_l, xor_zero_r, xor_lt}
use Rattle.std.specs.Int.{w64, to_le_bytes}
use Rattle.std.proofs.lemmas.Nat.{mul-mod_first, mul-mod_second, from_le_bytes-to_le_bytes_8}
use Rattle.std.proofs.Math.Nat.{mul_assoc}
use Rattle.std.proofs.lemmas.Bool.Decides.{nat_tests}
use Rattle.rand_core.specs.Stream.{fill_bytes}
use Rattle.rand_core.specs.Steps.{first_words, word_bytes, stream_of, u32_at, u64_at}
use Rattle.rand_xoshiro.specs.SplitMix64.{fold_mul, next_state, mix_u64, splitmix_seed}
use Rattle.rand_xoshiro.specs.Xoshiro256.{of_seed, zero_seed_state}

pub xor-eq : (a b : ℕ) → bit_xor a b ≡ 0 → a ≡ b
xor-eq a b h = sym (xor_zero_r a) ∙ ap (bit_xor a) (sym (xor_self b)) ∙ sym (xor_assoc a b b) ∙ ap (λ x. bit_xor x b) h ∙ xor_zero_l b

-- a factor with an inverse loses nothing
zero_factor : (y m inverse : ℕ) → m * inverse % 2 ^ 64 ≡ 1 → y < 2 ^ 64 → y * m % 2 ^ 64 ≡ 0 → y ≡ 0
zero_factor y m inverse one below h =
    let a : y * (m * inverse) % 2 ^ 64 ≡ 0 =
    ap (λ x. x % 2 ^ 64) (sym (mul_assoc y m inverse)) ∙ sym (mul-mod_first (y * m) inverse (2 ^ 64))
    ∙ ap (λ x. x * inverse % 2 ^ 64) h ∙ omega arith in
    let b : y * (m * inverse) % 2 ^ 64 ≡ y * 1 % 2 ^ 64 = sym (mul-mod_second y (m * inverse) (2 ^ 64)) ∙ ap (λ x. y * x % 2 ^ 64) one in
    let c : y * 1 % 2 ^ 64 ≡ 0 = sym b ∙ a in
    omega arith

unshifted_30 : (z : ℕ) → z ≡ z / 2 ^ 30 → z ≡ 0
unshifted_30 z h = omega arith

unshifted_27 : (z : ℕ) → z ≡ z / 2 ^ 27 → z ≡ 0
unshifted_27 z h = omega arith

unshifted_31 : (z : ℕ) → z ≡ z / 2 ^ 31 → z ≡ 0
unshifted_31 z h = omega arith

below_30 : (z : ℕ) → z < 2 ^ 64 → bit_xor z (z / 2 ^ 30) < 2 ^ 64
below_30 z h = xor_lt 64 z (z / 2 ^ 30) h (omega arith)

below_27 : (z : ℕ) → z < 2 ^ 64 → bit_xor z (z / 2 ^ 27) < 2 ^ 64
below_27 z h = xor_lt 64 z (z / 2 ^ 27) h (omega arith)

splitmix_output-zero : (x : ℕ) → (mix_u64 x).0 ≡ 0 → next_state x ≡ 0
splitmix_output-zero x h =
    let a : ℕ = next_state x in
    let w : ℕ = fold_mul a 30 0xbf58476d1ce4e5b9 in
    let z : ℕ = fold_mul w 27 0x94d049bb133111eb in
    let az : a < 2 ^ 64 = omega arith in
    let wz : w < 2 ^ 64 = omega arith in
    let z0 : z ≡ 0 = unshifted_31 z (xor-eq z (z / 2 ^ 31) h) in
    let w0 : w ≡ 0 = unshifted_27 w (xor-eq w (w / 2 ^ 27) (zero_factor _ 0x94d049bb133111eb 0x319642b2d24d8ec3 refl (below_27 w wz) z0)) in
    unshifted_30 a (xor-eq a (a / 2 ^ 30) (zero_factor _ 0xbf58476d1ce4e5b9 0x96de1b173f119089 refl (below_30 a az) w0))

-- two outputs in a row are not both zero
pub not_both_zero : (k : ℕ) → (mix_u64 k).0 ≡ 0 → (mix_u64 (next_state k)).0 ≡ 0 → ⊥
not_both_zero k h g =
    let a : next_state k ≡ 0 = splitmix_output-zero k h in
    let b : next_state (next_state k) ≡ 0 = splitmix_output-zero (next_state k) g in
    let c : next_state 0 ≡ 0 = ap next_state (sym a) ∙ b in
    omega arith

pub the_bytes : (n : ℕ) → n < 2 ^ 64 → u64_at (to_le_bytes w64 n) 0 ≡ n
unfolding u32_at
the_bytes n h = let e = from_le_bytes-to_le_bytes_8 n h in omega (arith, e)

pub is_zero : (a : ℕ) → eqb a 0 ≡ true → a ≡ 0
is_zero a h = grind (arith, nat_tests)

not_all : (a b c d : Bool) (x y : List ℕ) → (a ≡ true → b ≡ true → ⊥) → cond (((a && b) && c) && d) x y ≡ y
not_all false b c d x y h = refl
not_all true false c d x y h = refl
not_all true true c d x y h = absurd (h refl refl)

chosen : (a b c d e f g k : ℕ) (x : List ℕ) → a ≡ e → b ≡ f → c ≡ g → d ≡ k → (e ≡ 0 → f ≡ 0 → ⊥) →
    cond (((eqb a 0 && eqb b 0) && eqb c 0) && eqb d 0) x (a ∷ b ∷ c ∷ d ∷ []) ≡ e ∷ f ∷ g ∷ k ∷ []
chosen a b c d e f g k x p q r s h =
    not_all (eqb a 0) (eqb b 0) (eqb c 0) (eqb d 0) x (a ∷ b ∷ c ∷ d ∷ []) (λ u v. h (sym p ∙ is_zero a u) (sym q ∙ is_zero b v))
    ∙ (λ i. p i ∷ q i ∷ r i ∷ s i ∷ [])

four_words : (a b c d : ℕ) → a < 2 ^ 64 → b < 2 ^ 64 → c < 2 ^ 64 → d < 2 ^ 64 → (a ≡ 0 → b ≡ 0 → ⊥) →
    of_seed (to_le_bytes w64 a ++ to_le_bytes w64 b ++ to_le_bytes w64 c ++ to_le_bytes w64 d) ≡ a ∷ b ∷ c ∷ d ∷ []
unfolding u32_at
four_words a b c d ha hb hc hd h =
    chosen _ _ _ _ a b c d zero_seed_state (the_bytes a ha) (the_bytes b hb) (the_bytes c hc) (the_bytes d hd) h

pub output-below : (k : ℕ) → (mix_u64 k).0 < 2 ^ 64
output-below k =
    let z : ℕ = fold_mul (fold_mul (next_state k) 30 0xbf58476d1ce4e5b9) 27 0x94d049bb133111eb in
    let h : z < 2 ^ 64 = omega arith in
    xor_lt 64 z (z / 2 ^ 31) h (omega arith)

pub seeded : (k : ℕ) → of_seed (splitmix_seed 32 k) ≡ first_words mix_u64 4 k
unfolding fill_bytes stream_of word_bytes first_words
seeded k =
    let a : ℕ = next_state k in
    let b : ℕ = next_state a in
    let c : ℕ = next_state b in
    four_words (mix_u64 k).0 (mix_u64 a).0 (mix_u64 b).0 (mix_u64 c).0
    (output-below k) (output-below a) (output-below b) (output-below c) (not_both_zero k)
