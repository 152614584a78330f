-- Bytes that are fixed, counted values and signed numbers are read lawfully.
use Rattle.std.proofs.Common.{◌≡◌, ℕ, suc, ◌+◌, ◌-◌, ◌<◌, ◌≤◌, ℤ, pos, negsuc, FitsSigned, Fits, Bool, true, false, cond, eqb, ltb, List}
use Rattle.std.proofs.Common.{[], ◌∷◌, ◌++◌, length, refl, sym, ap, subst, ◌∙◌, arith, inl, inr, ◌⊎◌, lit≤}
use Rattle.std.specs.List.{flat_map, All}
use Rattle.std.specs.Int.{w64, cast_signed, cast_unsigned}
use Rattle.std.proofs.lemmas.Bool.{eqb-true, ltb-true, ltb-false}
use Rattle.std.proofs.lemmas.Bool.Decides.{nat_tests}
use Rattle.std.proofs.lemmas.Int.{ints, to_z-of_z, of_z-to_z}
use Rattle.std.proofs.Math.Facts.{Fits-of_z, Fits-of_lt, sfits_to_z}
use Rattle.det_values.specs.Limits.{IsSampleValue}
use Rattle.record_grammar.specs.declared.record_fault.Reason.{Reason}
use Rattle.record_grammar.specs.declared.limits.Limits.TheVariants.{Around}
use Rattle.record_grammar.specs.Read.{Read, Got, More, Bad, ◌>>=◌, many}
use Rattle.record_grammar.specs.Numbers.{number, number_from, IsWithin, highest}
use Rattle.record_grammar.specs.Grammar.{exactly_at, signed_at, sample_value_at}
use Rattle.record_grammar.specs.Spelling.{spelled_u64, spelled_signed}
use Rattle.record_grammar.proofs.Steady.{by_first}
use Rattle.record_grammar.proofs.lemmas.record_laws.Lawful.{IsLawful, lawful_give, lawful_read, lawful_values, lawful_map, lawful_then}
use Rattle.record_grammar.proofs.lemmas.record_laws.Lawful.{lawful_first}
use Rattle.record_grammar.proofs.lemmas.record_laws.LawfulMany.{lawful_many, copies}
use Rattle.record_grammar.proofs.lemmas.record_laws.LawfulNumbers.{big_endian, around_lawful}
use Rattle.record_grammar.proofs.lemmas.record_laws.LawfulWords.{IsFrom, u64_is, u64_lawful}

-- ---- reading one thing after another

pub bind_bind : {A B C : Type 0} (r : Read A) (f : A × List ℕ → Read B) (g : B × List ℕ → Read C) → ((r >>= f) >>= g)
    ≡ (r >>= λ x. f x >>= g)
bind_bind (Got x) f g = refl
bind_bind More f g = refl
bind_bind (Bad reason left) f g = refl

pub bind_same : {A B : Type 0} (r : Read A) (f g : A × List ℕ → Read B) → ((x : A × List ℕ) → f x ≡ g x) → (r >>= f) ≡ (r >>= g)
bind_same (Got x) f g h = h x
bind_same More f g h = refl
bind_same (Bad reason left) f g h = refl

-- ---- fixed bytes

-- one byte may come there
pub lawful_tag : {A : Type 0} (Fits : A → Type 0) (k : ℕ) (body : A → List ℕ) (g : List ℕ → Read A) (why : ℕ → Reason) (a : A) → Fits a
    → k < 256 → IsLawful Fits body g
    → IsLawful Fits (λ c. k ∷ body c) (by_first (λ b bytes. cond (eqb b k) (g bytes) (Bad (why b) (suc (length bytes)))))
lawful_tag {A} Fits k body g why a fits small l =
    lawful_first Fits (λ c. k) body (λ b bytes. cond (eqb b k) (g bytes) (Bad (why b) (suc (length bytes)))) why a fits
    (λ b h. cases b (eqb b k) refl) (λ c h. small)
  where
    cases : (b : ℕ) (t : Bool) → eqb b k ≡ t
        → (((bytes : List ℕ) → cond (eqb b k) (g bytes) (Bad (why b) (suc (length bytes))) ≡ Bad (why b) (suc (length bytes)))
        × ((c : A) → Fits c → k ≡ b → ⊥))
        ⊎ IsLawful (λ c. Fits c × (k ≡ b)) body (λ bytes. cond (eqb b k) (g bytes) (Bad (why b) (suc (length bytes))))
    cases b true e =
        inr (lawful_read (λ c. Fits c × (k ≡ b)) body (λ bytes. cond (eqb b k) (g bytes) (Bad (why b) (suc (length bytes)))) g
        (λ bytes. ap (λ (t : Bool). cond t (g bytes) (Bad (why b) (suc (length bytes)))) e)
        (lawful_values Fits (λ c. Fits c × (k ≡ b)) body body g (λ c h. (h, sym (eqb-true b k e))) (λ c h. (h.0, refl)) l))
    cases b false e =
        inl (
          (λ bytes. ap (λ (t : Bool). cond t (g bytes) (Bad (why b) (suc (length bytes)))) e),
          (λ c h same. grind (arith, nat_tests, e, same)),
        )

pub exactly_lawful : (reason : Reason) (k : ℕ) → k < 256 → IsLawful (λ n. n ≡ k) (λ n. k ∷ []) (exactly_at reason k)
exactly_lawful reason k small =
    lawful_read (λ n. n ≡ k) (λ n. k ∷ []) (exactly_at reason k) (by_first
    (λ b bytes. cond (eqb b k) (Got (k, bytes)) (Bad reason (suc (length bytes))))) same
    (lawful_tag (λ n. n ≡ k) k (λ n. []) (λ bytes. Got (k, bytes)) (λ b. reason) k refl small (lawful_give (λ n. n ≡ k) k refl (λ n h. h)))
  where
    same : (bytes : List ℕ) → exactly_at reason k bytes
        ≡ by_first (λ b bytes. cond (eqb b k) (Got (k, bytes)) (Bad reason (suc (length bytes)))) bytes
    same [] = refl
    same (b ∷ bytes) = refl

-- a byte that must be this one, and what comes after it
pub fixed_then : {C : Type 0} (reason : Reason) (k : ℕ) (Fits : C → Type 0) (c : C) (spell : C → List ℕ) (r : List ℕ → Read C) → k < 256
    → Fits c → IsLawful Fits spell r → IsLawful Fits (λ d. k ∷ spell d) (λ bytes. exactly_at reason k bytes >>= λ x. r x.1)
fixed_then reason k Fits c spell r small fits l =
    lawful_then (λ n. n ≡ k) (λ n. k ∷ []) (exactly_at reason k) Fits (λ d. k) spell (λ n. r) (λ d h. refl) (λ n h. (c, fits, sym h))
    (exactly_lawful reason k small)
    (λ n h. lawful_values Fits (λ d. Fits d × (k ≡ n)) spell spell r (λ d f. (f, sym h)) (λ d f. (f.0, refl)) l)

-- ---- a count, and so many values

pub counted_lawful : {A : Type 0} (Fits : A → Type 0) (spell : A → List ℕ) (item : List ℕ → Read A) (a : A) (fits : Fits a)
    (h : IsLawful Fits spell item)
    (width least most : ℕ) (count : ℕ → List ℕ) → IsLawful (IsFrom least most) count (number width least most)
    → IsLawful (λ xs. IsFrom least most (length xs) × All Fits xs) (λ xs. count (length xs) ++ flat_map spell xs)
    (λ bytes. number width least most bytes >>= λ n. many item n.0 n.1)
counted_lawful {A} Fits spell item a fits h width least most count counts =
    lawful_then (IsFrom least most) count (number width least most) (λ xs. IsFrom least most (length xs) × All Fits xs) length
    (flat_map spell) (many item)
    (λ xs k. k.0)
    (λ n k. let c = copies Fits spell item a fits h n in (c.0, (subst (IsFrom least most) (sym c.1) k, c.2), c.1))
    counts
    (λ n k. lawful_values (λ xs. (length xs ≡ n) × All Fits xs) (λ xs. (IsFrom least most (length xs) × All Fits xs) × (length xs ≡ n))
    (flat_map spell) (flat_map spell) (many item n)
    (λ xs l. ((subst (IsFrom least most) (sym l.0) k, l.1), l.0)) (λ xs l. ((l.1, l.0.1), refl)) (lawful_many Fits spell item a fits h n))

-- ---- signed numbers

unsigned_most : (z : ℤ) → FitsSigned w64 z → cast_unsigned w64 z ≤ 18446744073709551615
unsigned_most z h = let f : Fits w64 (cast_unsigned w64 z) = Fits-of_z h in omega arith

signed_fits : (n : ℕ) → n ≤ 18446744073709551615 → FitsSigned w64 (cast_signed w64 n)
signed_fits n h = let f : Fits w64 n = Fits-of_lt (omega arith) in sfits_to_z f

pub signed_lawful : IsLawful (FitsSigned w64) spelled_signed signed_at
unfolding signed_at
signed_lawful =
    lawful_map (IsFrom 0 18446744073709551615) spelled_u64 (number 8 0 18446744073709551615) (FitsSigned w64) (cast_unsigned w64)
    (cast_signed w64)
    (λ z h. ((omega arith, unsigned_most z h), sym (to_z-of_z w64 z h)))
    (λ n h. (signed_fits n h.1, of_z-to_z w64 n (omega (arith, h.1))))
    (u64_lawful 0 18446744073709551615 (omega arith) (lit≤ tt))

abbrev IsNear : ℕ → Type 0
IsNear n = IsWithin (Around 1000000000000) n × (n ≤ highest 8 0)

near_there : (z : ℤ) → IsSampleValue z → IsNear (cast_unsigned w64 z) × (z ≡ cast_signed w64 (cast_unsigned w64 z))
unfolding highest
near_there (pos n) h =
    let le : n ≤ 1000000000000 = omega (arith, ints, h.1) in
    let low : ltb n 9223372036854775808 ≡ true = grind (arith, nat_tests, le) in
    ((inl le, omega arith), ap (λ (t : Bool). cond t (pos n) (negsuc (18446744073709551616 - suc n))) (sym low))
near_there (negsuc n) h =
    let le : n ≤ 999999999999 = omega (arith, ints, h.0) in
    let high : ltb (18446744073709551616 - suc n) 9223372036854775808 ≡ false = grind (arith, nat_tests, le) in
    let back : 18446744073709551616 - suc (18446744073709551616 - suc n) ≡ n = omega arith in (
      (inr (omega arith), omega arith),
      sym (ap (λ (t : Bool). cond t (pos (18446744073709551616 - suc n))
          (negsuc (18446744073709551616 - suc (18446744073709551616 - suc n)))) high ∙ ap (λ (m : ℕ). negsuc m) back),
    )

near_back : (n : ℕ) (t : Bool) → ltb n 9223372036854775808 ≡ t → IsNear n
    → IsSampleValue (cond t (pos n) (negsuc (18446744073709551616 - suc n)))
unfolding highest
near_back n true e h =
    let lt : n < 9223372036854775808 = ltb-true n 9223372036854775808 e in
    let le : n ≤ 1000000000000 = elim h.0 [ inl low ↦ low | inr high ↦ absurd (omega arith) ] in
    (omega (arith, ints), omega (arith, ints, le))
near_back n false e h =
    let ge : 9223372036854775808 ≤ n = ltb-false n 9223372036854775808 e in
    let near : 18446744073709551616 ≤ n + 1000000000000 = elim h.0 [ inl low ↦ absurd (omega arith) | inr high ↦ high ] in
    (omega (arith, ints, near, h.1), omega (arith, ints))

near_same : (n : ℕ) → IsNear n → cast_unsigned w64 (cast_signed w64 n) ≡ n
unfolding highest
near_same n h = of_z-to_z w64 n (omega (arith, h.1))

pub sample_value_lawful : IsLawful IsSampleValue spelled_signed sample_value_at
unfolding sample_value_at
sample_value_lawful =
    lawful_values IsSampleValue IsSampleValue (λ z. big_endian 8 (cast_unsigned w64 z)) spelled_signed sample_value_at (λ z h. h)
    (λ z h. (h, u64_is (cast_unsigned w64 z)))
    (lawful_map IsNear (big_endian 8) (number_from (Around 1000000000000) 8 0) IsSampleValue (cast_unsigned w64) (cast_signed w64)
    near_there (λ n h. (near_back n (ltb n 9223372036854775808) refl h, near_same n h)) (around_lawful 8 1000000000000))
