-- Bytes that begin with a spelled element, and bytes that begin with none.
use Rattle.std.proofs.Common.{◌≡◌, ℕ, zero, suc, ◌+◌, ◌-◌, ◌^◌, ◌<◌, ◌≤◌, List, [], ◌∷◌, ◌++◌, length, take, drop, get_or, refl, sym, ap}
use Rattle.std.proofs.Common.{◌∙◌, arith, length-append, length-drop, lit<}
use Rattle.std.proofs.lemmas.List.{take_all}
use Rattle.std.specs.Int.{w16, w32, to_be_bytes, from_be_bytes}
use Rattle.std.proofs.lemmas.Nat.{from_be_bytes-to_be_bytes_2, be_bytes_2, be_bytes_4}
use Rattle.det_values.specs.declared.frames.DrawnElement.{DrawnElement}
use Rattle.det_values.specs.Spelling.{AreBytes, spelled_u16, spelled_u32, an_element, spelled_drawn, IsDrawn, BeginsWith}
use Rattle.det_values.proofs.FlatReading.{take_two, drop_two, parts}

pub length_u16 : (n : ℕ) → length (spelled_u16 n) ≡ 2
unfolding spelled_u16
length_u16 n = refl

pub length_u32 : (n : ℕ) → length (spelled_u32 n) ≡ 4
unfolding spelled_u32
length_u32 n = refl

-- bytes that begin with a length and with an element
pub same_front : (len : ℕ) (rest behind : List ℕ) (e : DrawnElement) → len < 2 ^ 16 → IsDrawn e
    → spelled_u16 len ++ rest ≡ spelled_drawn e ++ behind
    → (len ≡ length e.bytes) × (rest ≡ e.bytes ++ (spelled_u32 e.draws ++ behind))
same_front len rest behind e small h eq =
    let short : length e.bytes ≤ 64 = h.short in
    let q : spelled_u16 len ++ rest ≡ spelled_u16 (length e.bytes) ++ (e.bytes ++ (spelled_u32 e.draws ++ behind)) = eq ∙ parts e behind in
    let t : to_be_bytes w16 len ≡ to_be_bytes w16 (length e.bytes) = sym (take_two len rest) ∙ ap (take 2) q
    ∙ take_two (length e.bytes) (e.bytes ++ (spelled_u32 e.draws ++ behind)) in (
      sym (from_be_bytes-to_be_bytes_2 len small) ∙ ap (from_be_bytes w16) t ∙ from_be_bytes-to_be_bytes_2 (length e.bytes) (omega arith),
      sym (drop_two len rest) ∙ ap (drop 2) q ∙ drop_two (length e.bytes) (e.bytes ++ (spelled_u32 e.draws ++ behind)),
    )

pub drawn_length : (e : DrawnElement) (behind : List ℕ) → length (spelled_drawn e ++ behind) ≡ 6 + length e.bytes + length behind
drawn_length e behind =
    omega (
      arith,
      ap length (parts e behind),
      length-append (spelled_u16 (length e.bytes)) (e.bytes ++ (spelled_u32 e.draws ++ behind)),
      length-append e.bytes (spelled_u32 e.draws ++ behind),
      length-append (spelled_u32 e.draws) behind,
      length_u16 (length e.bytes),
      length_u32 e.draws,
    )

pub none_short : (bytes : List ℕ) (e : DrawnElement) (behind : List ℕ) → length bytes < 2 → BeginsWith e behind bytes → ⊥
none_short bytes e behind lt h = omega (arith, ap length h.spelling, drawn_length e behind)

pub none_long : (len : ℕ) (rest bytes : List ℕ) (e : DrawnElement) (behind : List ℕ) → bytes ≡ spelled_u16 len ++ rest → len < 2 ^ 16
    → 64 < len → BeginsWith e behind bytes → ⊥
none_long len rest bytes e behind eq small lt h =
    let s = same_front len rest behind e small h.fields (sym eq ∙ h.spelling) in
    let short : length e.bytes ≤ 64 = h.fields.short in
    omega (arith, s.0)

pub none_cut : (len : ℕ) (rest bytes : List ℕ) (e : DrawnElement) (behind : List ℕ) → bytes ≡ spelled_u16 len ++ rest → len < 2 ^ 16
    → length rest < len + 4 → BeginsWith e behind bytes → ⊥
none_cut len rest bytes e behind eq small lt h =
    let s = same_front len rest behind e small h.fields (sym eq ∙ h.spelling) in
    omega (
      arith,
      s.0,
      ap length s.1,
      length-append e.bytes (spelled_u32 e.draws ++ behind),
      length-append (spelled_u32 e.draws) behind,
      length_u32 e.draws,
    )

pub begins : (len draws : ℕ) (rest bytes shown more behind : List ℕ) → bytes ≡ spelled_u16 len ++ rest → rest ≡ shown ++ more
    → length shown ≡ len → len ≤ 64 → AreBytes shown → more ≡ spelled_u32 draws ++ behind → draws < 2 ^ 32
    → BeginsWith (an_element shown draws) behind bytes
begins len draws rest bytes shown more behind eq split counted short are e fits =
    record {
      fields = record { short = omega (arith, counted); bytes = are; draws = fits };
      spelling = eq ∙ ap (λ (xs : List ℕ). spelled_u16 len ++ xs) (split ∙ ap (λ (xs : List ℕ). shown ++ xs) e)
          ∙ ap (λ (n : ℕ). spelled_u16 n ++ (shown ++ (spelled_u32 draws ++ behind))) (sym counted)
          ∙ sym (parts (an_element shown draws) behind);
    }

rest_is : (n : ℕ) (bytes : List ℕ) → drop n bytes ≡ take (length bytes - n) (drop n bytes)
rest_is n bytes = sym (take_all (length bytes - n) (drop n bytes) (omega (arith, length-drop n bytes)))

two_small : (a b : ℕ) (rest : List ℕ) → ((i : ℕ) → get_or (a ∷ b ∷ rest) i 0 < 256) → (i : ℕ) → get_or (a ∷ b ∷ []) i 0 < 256
two_small a b rest h zero = h zero
two_small a b rest h (suc zero) = h (suc zero)
two_small a b rest h (suc (suc i)) = lit< tt

four_small : (a b c d : ℕ) (rest : List ℕ) → ((i : ℕ) → get_or (a ∷ b ∷ c ∷ d ∷ rest) i 0 < 256) → (i : ℕ)
    → get_or (a ∷ b ∷ c ∷ d ∷ []) i 0 < 256
four_small a b c d rest h zero = h zero
four_small a b c d rest h (suc zero) = h (suc zero)
four_small a b c d rest h (suc (suc zero)) = h (suc (suc zero))
four_small a b c d rest h (suc (suc (suc zero))) = h (suc (suc (suc zero)))
four_small a b c d rest h (suc (suc (suc (suc i)))) = lit< tt

pub length_front : (bytes : List ℕ) (n : ℕ) → 2 ≤ length bytes → ((i : ℕ) → get_or bytes i 0 < 256)
    → n ≡ from_be_bytes w16 (get_or bytes 0 0 ∷ get_or bytes 1 0 ∷ [])
    → bytes ≡ spelled_u16 n ++ take (length bytes - 2) (drop 2 bytes)
unfolding spelled_u16
length_front [] n le h e = absurd (omega arith)
length_front (a ∷ []) n le h e = absurd (omega arith)
length_front (a ∷ b ∷ rest) n le h e =
    ap (λ (xs : List ℕ). xs ++ rest) (sym (be_bytes_2 (a ∷ b ∷ []) n refl (two_small a b rest h) e))
    ∙ ap (λ (xs : List ℕ). spelled_u16 n ++ xs) (rest_is 2 (a ∷ b ∷ rest))

pub draws_front : (bytes : List ℕ) (n : ℕ) → 4 ≤ length bytes → ((i : ℕ) → get_or bytes i 0 < 256)
    → n ≡ from_be_bytes w32 (get_or bytes 0 0 ∷ get_or bytes 1 0 ∷ get_or bytes 2 0 ∷ get_or bytes 3 0 ∷ [])
    → bytes ≡ spelled_u32 n ++ take (length bytes - 4) (drop 4 bytes)
unfolding spelled_u32
draws_front [] n le h e = absurd (omega arith)
draws_front (a ∷ []) n le h e = absurd (omega arith)
draws_front (a ∷ b ∷ []) n le h e = absurd (omega arith)
draws_front (a ∷ b ∷ c ∷ []) n le h e = absurd (omega arith)
draws_front (a ∷ b ∷ c ∷ d ∷ rest) n le h e =
    ap (λ (xs : List ℕ). xs ++ rest) (sym (be_bytes_4 (a ∷ b ∷ c ∷ d ∷ []) n refl (four_small a b c d rest h) e))
    ∙ ap (λ (xs : List ℕ). spelled_u32 n ++ xs) (rest_is 4 (a ∷ b ∷ c ∷ d ∷ rest))
