-- A state of a key is four numbers that are not all zero, so its bytes determine it.
use Rattle.std.proofs.Common.{◌≡◌, ℕ, zero, suc, ◌*◌, ◌/◌, ◌%◌, ◌^◌, ◌<◌, ◌≤◌, List, [], ◌∷◌, Bool}
use Rattle.std.proofs.Common.{true, false, cond, eqb, ◌&&◌, refl, sym, ap, subst, ◌∙◌, arith}
use Rattle.std.proofs.Common.{mod-lt, pow_pos}
use lib.Bits.{bit_xor, or_lt, xor_lt}
use Rattle.std.specs.Int.{w64, rotate_left}
use Rattle.std.proofs.lemmas.Nat.{le_or_l, le_or_r}
use Rattle.rand_core.specs.Steps.{first_words, u32_at, u64_at}
use Rattle.rand_xoshiro.specs.SplitMix64 as split
use Rattle.rand_xoshiro.specs.Xoshiro256.{of_seed, next_state, state_bytes, zero_seed_state}
use Rattle.det_client.specs.element_random.RandomStreams.{state_at, state_of_words}
use Rattle.det_client.proofs.lemmas.element_random.Seeds.{xor-eq, the_bytes, is_zero, output-below, not_both_zero}

record IsState (s : List ℕ) : Type 0 where
  pub a : ℕ
  pub b : ℕ
  pub c : ℕ
  pub d : ℕ
  pub is : s ≡ a ∷ b ∷ c ∷ d ∷ []
  pub a_fits : a < 2 ^ 64
  pub b_fits : b < 2 ^ 64
  pub c_fits : c < 2 ^ 64
  pub d_fits : d < 2 ^ 64
  pub some : a ≡ 0 → b ≡ 0 → c ≡ 0 → d ≡ 0 → ⊥

begun : (k : ℕ) → IsState (first_words split.mix_u64 4 k)
unfolding first_words
begun k =
    let e : ℕ = split.next_state k in
    let f : ℕ = split.next_state e in
    let g : ℕ = split.next_state f in
    record {
      a = (split.mix_u64 k).0;
      b = (split.mix_u64 e).0;
      c = (split.mix_u64 f).0;
      d = (split.mix_u64 g).0;
      is = refl;
      a_fits = output-below k;
      b_fits = output-below e;
      c_fits = output-below f;
      d_fits = output-below g;
      some = λ p q r s. not_both_zero k p q;
    }

turned_zero : (x : ℕ) → x < 2 ^ 64 → rotate_left w64 x 45 ≡ 0 → x ≡ 0
turned_zero x fits h =
    let high : x * 2 ^ 45 % 2 ^ 64 ≤ 0 = subst (λ m. x * 2 ^ 45 % 2 ^ 64 ≤ m) h (le_or_l (x * 2 ^ 45 % 2 ^ 64) (x / 2 ^ 19)) in
    let low : x / 2 ^ 19 ≤ 0 = subst (λ m. x / 2 ^ 19 ≤ m) h (le_or_r (x * 2 ^ 45 % 2 ^ 64) (x / 2 ^ 19)) in
    omega arith

unshifted_17 : (x : ℕ) → x < 2 ^ 64 → x ≡ x * 2 ^ 17 % 2 ^ 64 → x ≡ 0
unshifted_17 x fits h = omega arith

turned_fits : (x : ℕ) → x < 2 ^ 64 → rotate_left w64 x 45 < 2 ^ 64
turned_fits x fits = or_lt 64 (x * 2 ^ 45 % 2 ^ 64) (x / 2 ^ 19) (mod-lt (x * 2 ^ 45) (pow_pos 64)) (omega arith)

stepped : (s : List ℕ) → IsState s → IsState (next_state s)
stepped s g =
    let a : ℕ = g.a in
    let b : ℕ = g.b in
    let c : ℕ = g.c in
    let d : ℕ = g.d in
    let e : ℕ = bit_xor c a in
    let f : ℕ = bit_xor d b in
    let e_fits : e < 2 ^ 64 = xor_lt 64 c a g.c_fits g.a_fits in
    let f_fits : f < 2 ^ 64 = xor_lt 64 d b g.d_fits g.b_fits in
    let some : bit_xor a f ≡ 0 → bit_xor b e ≡ 0 → bit_xor e (b * 2 ^ 17 % 2 ^ 64) ≡ 0 → rotate_left w64 f 45 ≡ 0 → ⊥ = λ p q r t.
    let f0 : f ≡ 0 = turned_zero f f_fits t in
    let a0 : a ≡ 0 = xor-eq a f p ∙ f0 in
    let be : b ≡ e = xor-eq b e q in
    let b0 : b ≡ 0 = unshifted_17 b g.b_fits (be ∙ xor-eq e (b * 2 ^ 17 % 2 ^ 64) r) in
    let c0 : c ≡ 0 = xor-eq c a (sym be ∙ b0) ∙ a0 in
    let d0 : d ≡ 0 = xor-eq d b f0 ∙ b0 in
    g.some a0 b0 c0 d0
    in
    subst IsState (ap next_state (sym g.is)) (record {
      a = bit_xor a f;
      b = bit_xor b e;
      c = bit_xor e (b * 2 ^ 17 % 2 ^ 64);
      d = rotate_left w64 f 45;
      is = refl;
      a_fits = xor_lt 64 a f g.a_fits f_fits;
      b_fits = xor_lt 64 b e g.b_fits e_fits;
      c_fits = xor_lt 64 e (b * 2 ^ 17 % 2 ^ 64) e_fits (mod-lt (b * 2 ^ 17) (pow_pos 64));
      d_fits = turned_fits f f_fits;
      some = some;
    })

not_all : (a b c d : Bool) (x y : List ℕ) → (a ≡ true → b ≡ true → c ≡ true → d ≡ true → ⊥) → cond (((a && b) && c) && d) x y ≡ y
not_all false b c d x y h = refl
not_all true false c d x y h = refl
not_all true true false d x y h = refl
not_all true true true false x y h = refl
not_all true true true true x y h = absurd (h refl refl refl refl)

back : (s : List ℕ) → IsState s → state_of_words s ≡ s
unfolding state_of_words
back s g =
    ap state_of_words g.is
    ∙ not_all (eqb g.a 0) (eqb g.b 0) (eqb g.c 0) (eqb g.d 0) (state_at 0 0) (g.a ∷ g.b ∷ g.c ∷ g.d ∷ [])
    (λ u v w z. g.some (is_zero g.a u) (is_zero g.b v) (is_zero g.c w) (is_zero g.d z))
    ∙ sym g.is

reached : (k n : ℕ) → IsState (state_at k n)
unfolding state_at
reached k zero = begun k
reached k (suc n) = stepped (state_at k n) (reached k n)

pub given_back : (k n : ℕ) → state_of_words (state_at k n) ≡ state_at k n
given_back k n = back (state_at k n) (reached k n)

-- the numbers that a state's bytes are read as
abbrev pub words_of : List ℕ → List ℕ
words_of bytes = u64_at bytes 0 ∷ u64_at bytes 1 ∷ u64_at bytes 2 ∷ u64_at bytes 3 ∷ []

the_words : (a b c d : ℕ) → a < 2 ^ 64 → b < 2 ^ 64 → c < 2 ^ 64 → d < 2 ^ 64 →
    words_of (state_bytes (a ∷ b ∷ c ∷ d ∷ [])) ≡ a ∷ b ∷ c ∷ d ∷ []
unfolding u32_at
the_words a b c d ha hb hc hd = λ i. the_bytes a ha i ∷ the_bytes b hb i ∷ the_bytes c hc i ∷ the_bytes d hd i ∷ []

pub words_back : (k n : ℕ) → words_of (state_bytes (state_at k n)) ≡ state_at k n
words_back k n =
    let g = reached k n in
    ap (λ s. words_of (state_bytes s)) g.is ∙ the_words g.a g.b g.c g.d g.a_fits g.b_fits g.c_fits g.d_fits ∙ sym g.is

pub the_state : (a b c d : ℕ) → a < 2 ^ 64 → b < 2 ^ 64 → c < 2 ^ 64 → d < 2 ^ 64 →
    of_seed (state_bytes (a ∷ b ∷ c ∷ d ∷ [])) ≡ state_of_words (a ∷ b ∷ c ∷ d ∷ [])
unfolding u32_at state_of_words state_at first_words
the_state a b c d ha hb hc hd =
    λ i. cond (((eqb (the_bytes a ha i) 0 && eqb (the_bytes b hb i) 0) && eqb (the_bytes c hc i) 0) && eqb (the_bytes d hd i) 0)
    zero_seed_state (the_bytes a ha i ∷ the_bytes b hb i ∷ the_bytes c hc i ∷ the_bytes d hd i ∷ [])
