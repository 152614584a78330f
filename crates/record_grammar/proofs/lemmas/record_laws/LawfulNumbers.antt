-- Numbers are read lawfully.
use Rattle.std.proofs.Common.{◌≡◌, ℕ, zero, suc, ◌+◌, ◌*◌, ◌/◌, ◌%◌, ◌^◌, ◌<◌, ◌≤◌, max, Bool, true, false, cond, leb, ◌&&◌, List, [], ◌∷◌}
use Rattle.std.proofs.Common.{length, refl, sym, ap, subst, ◌∙◌, arith, inl, inr, ◌⊎◌}
use Rattle.std.proofs.lemmas.Bool.{cases_lt}
use Rattle.std.proofs.lemmas.Bool.Decides.{nat_tests}
use Rattle.record_grammar.specs.declared.limits.Limits.{Limits}
use Rattle.record_grammar.specs.declared.limits.Limits.TheVariants.{Between, Around}
use Rattle.record_grammar.specs.declared.record_fault.Reason.TheVariants.{Range}
use Rattle.record_grammar.specs.Read.{Bad}
use Rattle.record_grammar.specs.Numbers.{IsWithin, lowest, highest, can_be, number_from, number}
use Rattle.record_grammar.proofs.Steady.{by_first, number_is}
use Rattle.record_grammar.proofs.lemmas.record_laws.Lawful.{IsLawful, lawful_give, lawful_read, lawful_values, lawful_first}

-- the rest of a number without this many of its lowest bytes
unfoldable pub front : ℕ → ℕ → ℕ
front zero n = n
front (suc low) n = front low n / 256

-- this many of the lowest bytes of a number, the highest first
unfoldable pub big_endian : ℕ → ℕ → List ℕ
big_endian zero n = []
big_endian (suc low) n = front low n % 256 ∷ big_endian low n

highest-mono : (k v w : ℕ) → v ≤ w → highest k v ≤ highest k w
unfolding highest
highest-mono zero v w h = h
highest-mono (suc k) v w h = highest-mono k (v * 256 + 255) (w * 256 + 255) (omega arith)

lowest-le-highest : (k v w : ℕ) → v ≤ w → lowest k v ≤ highest k w
unfolding lowest highest
lowest-le-highest zero v w h = h
lowest-le-highest (suc k) v w h = lowest-le-highest k (v * 256) (w * 256 + 255) (omega arith)

lowest-mono : (k v w : ℕ) → v ≤ w → lowest k v ≤ lowest k w
unfolding lowest
lowest-mono zero v w h = h
lowest-mono (suc k) v w h = lowest-mono k (v * 256) (w * 256) (omega arith)

apart : (k v : ℕ) → highest k v < lowest k (v + 1)
unfolding lowest highest
apart zero v = omega arith
apart (suc k) v =
    let i : highest k (v * 256 + 255) < lowest k (v * 256 + 255 + 1) = apart k (v * 256 + 255) in
    let e : v * 256 + 255 + 1 ≡ (v + 1) * 256 = omega arith in
    let d : lowest k (v * 256 + 255 + 1) ≡ lowest k ((v + 1) * 256) = ap (lowest k) e in
    omega arith

in_ends : (k n : ℕ) → (lowest k (front k n) ≤ n) × (n ≤ highest k (front k n))
unfolding lowest highest front
in_ends zero n = (omega arith, omega arith)
in_ends (suc k) n =
    let i = in_ends k n in
    let q = front k n in
    let a : lowest k (q / 256 * 256) ≤ lowest k q = lowest-mono k (q / 256 * 256) q (omega arith) in
    let b : highest k q ≤ highest k (q / 256 * 256 + 255) = highest-mono k q (q / 256 * 256 + 255) (omega arith) in
    (omega (arith, i.0), omega (arith, i.1))

only_front : (k q n : ℕ) → lowest k q ≤ n → n ≤ highest k q → front k n ≡ q
unfolding lowest highest front
only_front zero q n l h = omega arith
only_front (suc k) q n l h =
    let p = front k n in
    let i = in_ends k n in
    let low : q * 256 ≤ p = elim (cases_lt p (q * 256)) [
      | inl lt ↦ let a : highest k p < lowest k (p + 1) =
          apart k p in let m : lowest k (p + 1) ≤ lowest k (q * 256) = lowest-mono k (p + 1) (q * 256) (omega arith) in
          absurd (omega (arith, i.1))
      | inr le ↦ le
    ] in
    let high : p ≤ q * 256 + 255 = elim (cases_lt (q * 256 + 255) p) [
      | inl lt ↦ let a : highest k (q * 256 + 255) < lowest k (q * 256 + 255 + 1) =
          apart k (q * 256 + 255) in let m : lowest k (q * 256 + 255 + 1) ≤ lowest k p =
          lowest-mono k (q * 256 + 255 + 1) p (omega arith) in absurd (omega (arith, i.0))
      | inr le ↦ le
    ] in
    omega arith

abbrev pub IsProper : Limits → Type 0
IsProper (Between least most) = least ≤ most
IsProper (Around most) = Unit {0}

and_true : (a b : Bool) → (a && b) ≡ true → (a ≡ true) × (b ≡ true)
and_true true true e = (refl, refl)
and_true true false e = absurd cc
and_true false b e = absurd cc

can_be_of : (limits : Limits) (k n : ℕ) → IsWithin limits n → can_be limits k (front k n) ≡ true
can_be_of (Between least most) k n h =
    let i = in_ends k n in let a : least ≤ highest k (front k n) = omega (arith, h.0, i.1) in let b : lowest k (front k n) ≤ most =
    omega (arith, h.1, i.0) in grind (arith, nat_tests, a, b)
can_be_of (Around most) k n (inl h) =
    let i = in_ends k n in let b : lowest k (front k n) ≤ most = omega (arith, i.0) in grind (arith, nat_tests, b)
can_be_of (Around most) k n (inr h) =
    let i = in_ends k n in let b : 2 ^ 64 ≤ highest k (front k n) + most = omega (arith, i.1) in grind (arith, nat_tests, b)

can_be_has : (limits : Limits) (k v : ℕ) → IsProper limits → can_be limits k v ≡ true → (n : ℕ) × IsWithin limits n × (front k n ≡ v)
can_be_has (Between least most) k v proper e =
    let t = and_true (leb least (highest k v)) (leb (lowest k v) most) e in
    let a : least ≤ highest k v = grind (arith, nat_tests, t.0) in
    let b : lowest k v ≤ most = grind (arith, nat_tests, t.1) in
    let o : lowest k v ≤ highest k v = lowest-le-highest k v v (omega arith) in
    (max least (lowest k v), (omega arith, omega arith), only_front k v (max least (lowest k v)) (omega arith) (omega arith))
can_be_has (Around most) k v proper e =
    let o : lowest k v ≤ highest k v = lowest-le-highest k v v (omega arith) in
    elim (cases_lt most (lowest k v)) [
      | inr le ↦ (lowest k v, inl le, only_front k v (lowest k v) (omega arith) o)
      | inl lt ↦
          let b : 2 ^ 64 ≤ highest k v + most = grind (arith, nat_tests, e) in
          (highest k v, inr b, only_front k v (highest k v) o (omega arith))
    ]

lawful_case : (limits : Limits) (k v b : ℕ) → IsProper limits → b < 256 → (t : Bool) → can_be limits k (v * 256 + b) ≡ t
    → ((n : ℕ) → IsWithin limits n → front k n ≡ v * 256 + b → IsLawful (λ m. IsWithin limits m × (front k m ≡ v * 256 + b)) (big_endian k)
    (number_from limits k (v * 256 + b)))
    → (((bytes : List ℕ) → cond (can_be limits k (v * 256 + b)) (number_from limits k (v * 256 + b) bytes) (Bad Range (suc (length bytes)))
    ≡ Bad Range (suc (length bytes))) × ((c : ℕ) → IsWithin limits c × (front (suc k) c ≡ v) → front k c % 256 ≡ b → ⊥))
    ⊎ IsLawful (λ c. (IsWithin limits c × (front (suc k) c ≡ v)) × (front k c % 256 ≡ b)) (big_endian k)
    (λ bytes. cond (can_be limits k (v * 256 + b)) (number_from limits k (v * 256 + b) bytes) (Bad Range (suc (length bytes))))
unfolding front
lawful_case limits k v b proper small true e deeper =
    let w = can_be_has limits k (v * 256 + b) proper e in
    let l = deeper w.0 w.1 w.2 in
    inr (lawful_read _ _ _ (number_from limits k (v * 256 + b)) (λ bytes.
    ap (λ (t : Bool). cond t (number_from limits k (v * 256 + b) bytes) (Bad Range (suc (length bytes)))) e)
    (lawful_values (λ m. IsWithin limits m × (front k m ≡ v * 256 + b)) _ (big_endian k) (big_endian k) (number_from limits k (v * 256 + b))
    (λ m h. ((h.0, omega (arith, h.1)), omega (arith, h.1)))
    (λ m h. ((h.0.0, omega (arith, h.0.1, h.1)), refl))
    l))
lawful_case limits k v b proper small false e deeper =
    inl (
      (λ bytes. ap (λ (t : Bool). cond t (number_from limits k (v * 256 + b) bytes) (Bad Range (suc (length bytes)))) e),
      (λ c h tag.
          let w : front k c ≡ v * 256 + b = omega (arith, h.1, tag) in
          let yes : can_be limits k (v * 256 + b) ≡ true = ap (can_be limits k) (sym w) ∙ can_be_of limits k c h.0 in
          absurd (cc (yes, e))),
    )

pub lawful_number_from : (limits : Limits) (k v n : ℕ) → IsProper limits → IsWithin limits n → front k n ≡ v
    → IsLawful (λ m. IsWithin limits m × (front k m ≡ v)) (big_endian k) (number_from limits k v)
unfolding front big_endian number_from
lawful_number_from limits zero v n proper within e =
    lawful_values (λ m. IsWithin limits m × (m ≡ v)) (λ m. IsWithin limits m × (m ≡ v)) (λ m. []) (big_endian zero)
    (number_from limits zero v) (λ m h. h) (λ m h. (h, refl))
    (lawful_give (λ m. IsWithin limits m × (m ≡ v)) v (subst (IsWithin limits) e within, refl) (λ m h. h.1))
lawful_number_from limits (suc k) v n proper within e =
    lawful_read _ _ (number_from limits (suc k) v) (by_first (λ b bytes.
    cond (can_be limits k (v * 256 + b)) (number_from limits k (v * 256 + b) bytes) (Bad Range (suc (length bytes)))))
    (number_is limits k v)
    (lawful_first (λ m. IsWithin limits m × (front (suc k) m ≡ v)) (λ m. front k m % 256) (big_endian k)
    (λ b bytes. cond (can_be limits k (v * 256 + b)) (number_from limits k (v * 256 + b) bytes) (Bad Range (suc (length bytes))))
    (λ b. Range) n (within, e)
    (λ b small. lawful_case limits k v b proper small (can_be limits k (v * 256 + b)) refl
    (λ m w f. lawful_number_from limits k (v * 256 + b) m proper w f))
    (λ m h. omega arith))

lowest-zero : (k : ℕ) → lowest k 0 ≡ 0
unfolding lowest
lowest-zero zero = refl
lowest-zero (suc k) = lowest-zero k

no_front : (width n : ℕ) → n ≤ highest width 0 → front width n ≡ 0
no_front width n h = only_front width 0 n (omega (arith, lowest-zero width)) h

-- a number of `width` bytes
pub number_lawful : (width least most : ℕ) → least ≤ most → most ≤ highest width 0
    → IsLawful (λ n. (least ≤ n) × (n ≤ most)) (big_endian width) (number width least most)
number_lawful width least most proper fits =
    lawful_values (λ n. ((least ≤ n) × (n ≤ most)) × (front width n ≡ 0)) (λ n. (least ≤ n) × (n ≤ most)) (big_endian width)
    (big_endian width) (number width least most) (λ n h. h.0) (λ n h. ((h, no_front width n (omega (arith, h.1))), refl))
    (lawful_number_from (Between least most) width 0 least proper (omega arith, proper) (no_front width least (omega arith)))

-- a number around 0 in two's complement
pub around_lawful : (width most : ℕ)
    → IsLawful (λ n. IsWithin (Around most) n × (n ≤ highest width 0)) (big_endian width) (number_from (Around most) width 0)
around_lawful width most =
    lawful_values (λ n. IsWithin (Around most) n × (front width n ≡ 0)) (λ n. IsWithin (Around most) n × (n ≤ highest width 0))
    (big_endian width) (big_endian width) (number_from (Around most) width 0)
    (λ n h. (h.0, subst (λ (f : ℕ). n ≤ highest width f) h.1 (in_ends width n).1)) (λ n h. ((h.0, no_front width n h.1), refl))
    (lawful_number_from (Around most) width 0 0 tt (inl (omega arith)) (no_front width 0 (omega arith)))
