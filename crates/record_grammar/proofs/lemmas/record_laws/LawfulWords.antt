-- Bytes, numbers of two, four and eight bytes, and strings are read lawfully.
use Rattle.std.proofs.Common.{◌≡◌, ℕ, zero, suc, ◌-◌, ◌/◌, ◌%◌, ◌^◌, ◌<◌, ◌≤◌, List, [], ◌∷◌, ◌++◌, length, take, drop, refl, sym, ap}
use Rattle.std.proofs.Common.{subst, ◌∙◌, arith, inl, inr, length-append, shr-shr}
use Rattle.std.proofs.lemmas.Bool.{cases_lt}
use Rattle.std.proofs.lemmas.List.{take-append-drop, take_at, drop_at, length-take}
use Rattle.std.proofs.lemmas.List.Elements.{All-nil, All-cons, All-take, All-append}
use Rattle.record_grammar.specs.Read.{raw_at}
use Rattle.record_grammar.specs.Numbers.{number, highest}
use Rattle.record_grammar.specs.Grammar.{string_at}
use Rattle.record_grammar.specs.Spelling.{AreBytes, IsString, spelled_u16, spelled_u32, spelled_u64}
use Rattle.record_grammar.proofs.Steady.{got, got_is, raw_short, raw_long}
use Rattle.record_grammar.proofs.lemmas.record_laws.Lawful.{IsLawful, lawful_values, lawful_then}
use Rattle.record_grammar.proofs.lemmas.record_laws.LawfulNumbers.{front, big_endian, number_lawful}

-- ---- the bytes of a number

front_none : (n : ℕ) → front 0 n ≡ n
unfolding front
front_none n = refl

front_is : (n : ℕ) → (front 1 n ≡ n / 256 ^ 1) × (front 2 n ≡ n / 256 ^ 2) × (front 3 n ≡ n / 256 ^ 3) × (front 4 n ≡ n / 256 ^ 4)
    × (front 5 n ≡ n / 256 ^ 5) × (front 6 n ≡ n / 256 ^ 6) × (front 7 n ≡ n / 256 ^ 7)
unfolding front
front_is n =
    let two : front 2 n ≡ n / 256 ^ 2 = shr-shr n 8 8 in
    let three : front 3 n ≡ n / 256 ^ 3 = ap (λ (m : ℕ). m / 256) two ∙ shr-shr n 16 8 in
    let four : front 4 n ≡ n / 256 ^ 4 = ap (λ (m : ℕ). m / 256) three ∙ shr-shr n 24 8 in
    let five : front 5 n ≡ n / 256 ^ 5 = ap (λ (m : ℕ). m / 256) four ∙ shr-shr n 32 8 in
    let six : front 6 n ≡ n / 256 ^ 6 = ap (λ (m : ℕ). m / 256) five ∙ shr-shr n 40 8 in
    (refl, two, three, four, five, six, ap (λ (m : ℕ). m / 256) six ∙ shr-shr n 48 8)

pub byte_is : (n : ℕ) → n ≤ 255 → big_endian 1 n ≡ n ∷ []
unfolding big_endian front
byte_is n h = let e : n % 256 ≡ n = omega arith in ap (λ (b : ℕ). b ∷ []) e

pub u16_is : (n : ℕ) → spelled_u16 n ≡ big_endian 2 n
unfolding spelled_u16 big_endian front
u16_is n = refl

pub u32_is : (n : ℕ) → spelled_u32 n ≡ big_endian 4 n
unfolding spelled_u32 big_endian
u32_is n =
    let f = front_is n in
    rw (f.0, f.1, f.2, front_none n) refl

pub u64_is : (n : ℕ) → spelled_u64 n ≡ big_endian 8 n
unfolding spelled_u64 big_endian
u64_is n =
    let f = front_is n in
    rw (f.0, f.1, f.2, f.3, f.4, f.5, f.6, front_none n) refl

-- ---- words

abbrev pub IsFrom : ℕ → ℕ → ℕ → Type 0
IsFrom least most n = (least ≤ n) × (n ≤ most)

-- the greatest numbers of 1, 2, 4 and 8 bytes
highest_numbers : (highest 1 0 ≡ 255) × (highest 2 0 ≡ 65535) × (highest 4 0 ≡ 4294967295) × (highest 8 0 ≡ 18446744073709551615)
unfolding highest
highest_numbers = (refl, refl, refl, refl)

pub byte_lawful : (least most : ℕ) → least ≤ most → most ≤ 255 → IsLawful (IsFrom least most) (λ n. n ∷ []) (number 1 least most)
byte_lawful least most order small =
    lawful_values (IsFrom least most) (IsFrom least most) (big_endian 1) (λ n. n ∷ []) (number 1 least most) (λ n h. h)
    (λ n h. (h, sym (byte_is n (omega (arith, h.1)))))
    (number_lawful 1 least most order (omega (arith, small, highest_numbers.0)))

pub u16_lawful : (least most : ℕ) → least ≤ most → most ≤ 65535 → IsLawful (IsFrom least most) spelled_u16 (number 2 least most)
u16_lawful least most order small =
    lawful_values (IsFrom least most) (IsFrom least most) (big_endian 2) spelled_u16 (number 2 least most) (λ n h. h) (λ n h. (h, u16_is n))
    (number_lawful 2 least most order (omega (arith, small, highest_numbers.1)))

pub u32_lawful : (least most : ℕ) → least ≤ most → most ≤ 4294967295 → IsLawful (IsFrom least most) spelled_u32 (number 4 least most)
u32_lawful least most order small =
    lawful_values (IsFrom least most) (IsFrom least most) (big_endian 4) spelled_u32 (number 4 least most) (λ n h. h) (λ n h. (h, u32_is n))
    (number_lawful 4 least most order (omega (arith, small, highest_numbers.2)))

pub u64_lawful : (least most : ℕ) → least ≤ most → most ≤ 18446744073709551615
    → IsLawful (IsFrom least most) spelled_u64 (number 8 least most)
u64_lawful least most order small =
    lawful_values (IsFrom least most) (IsFrom least most) (big_endian 8) spelled_u64 (number 8 least most) (λ n h. h) (λ n h. (h, u64_is n))
    (number_lawful 8 least most order (omega (arith, small, highest_numbers.3)))

-- ---- raw bytes

zeros : (n : ℕ) → (xs : List ℕ) × (length xs ≡ n) × AreBytes xs
zeros zero = ([], refl, All-nil (λ b. b < 256))
zeros (suc n) = let z = zeros n in (0 ∷ z.0, ap suc z.1, All-cons (λ b. b < 256) 0 z.0 (omega arith) z.2)

pair_is : (a b c d : List ℕ) → a ≡ b → c ≡ d → ◌≡◌ {A = List ℕ × List ℕ} (a, c) (b, d)
pair_is a b c d e f = cc

pub raw_lawful : (n : ℕ) → IsLawful (λ xs. (length xs ≡ n) × AreBytes xs) (λ xs. xs) (raw_at n)
raw_lawful n = record {
  again = λ xs rest h.
      let l : n ≤ length (xs ++ rest) = omega (arith, length-append xs rest, h.0) in
      raw_long n (xs ++ rest) l
      ∙ ap (λ (p : List ℕ × List ℕ). got p) (pair_is (take n (xs ++ rest)) xs (drop n (xs ++ rest)) rest (take_at xs rest n h.0)
      (drop_at xs rest n h.0));
  sound = λ bytes x are e. elim (cases_lt (length bytes) n) [
    | inl lt ↦ absurd (cc (raw_short n bytes lt))
    | inr le ↦
        let p : (take n bytes, drop n bytes) ≡ x = got_is (take n bytes, drop n bytes) x (sym (raw_long n bytes le) ∙ e) in
        subst (λ (y : List ℕ × List ℕ). ((length y.0 ≡ n) × AreBytes y.0) × (bytes ≡ y.0 ++ y.1)) p
        ((omega (arith, length-take n bytes), All-take (λ b. b < 256) n bytes are), sym (take-append-drop n bytes))
  ];
  more = λ bytes are e. elim (cases_lt (length bytes) n) [
    | inl lt ↦ let z =
        zeros (n - length bytes) in (
          bytes ++ z.0,
          z.0,
          (
            omega (arith, length-append bytes z.0, z.1),
            All-append (λ b. b < 256) bytes z.0 are z.2,
          ),
          refl,
        )
    | inr le ↦ absurd (cc (raw_long n bytes le))
  ];
  bad = λ bytes reason left are e. elim (cases_lt (length bytes) n) [
    | inl lt ↦ absurd (cc (raw_short n bytes lt))
    | inr le ↦ absurd (cc (raw_long n bytes le))
  ];
}

-- a length, and that many bytes
pub string_lawful : (width most : ℕ) (spell : ℕ → List ℕ) → IsLawful (IsFrom 0 most) spell (number width 0 most)
    → IsLawful (IsString most) (λ xs. spell (length xs) ++ xs) (string_at width most)
unfolding string_at
string_lawful width most spell h =
    lawful_then (IsFrom 0 most) spell (number width 0 most) (IsString most) length (λ xs. xs) raw_at
    (λ xs k. (omega arith, k.0))
    (λ n k. let z = zeros n in (z.0, (omega (arith, z.1, k.1), z.2), z.1))
    h
    (λ n k. lawful_values (λ xs. (length xs ≡ n) × AreBytes xs) (λ xs. IsString most xs × (length xs ≡ n)) (λ xs. xs) (λ xs. xs) (raw_at n)
    (λ xs l. ((omega (arith, l.0, k.1), l.1), l.0)) (λ xs l. ((l.1, l.0.1), refl)) (raw_lawful n))
