-- An element whose length is filled in at the end.
use Rattle.std.proofs.Common.{◌≡◌, ℕ, ◌+◌, ◌-◌, ◌≤◌, List, [], ◌∷◌, ◌++◌, length, take, drop}
use Rattle.std.proofs.Common.{ap, ◌∙◌, append_assoc, arith, length-append}
use Rattle.std.proofs.Math.Seq.{take-append_seam, drop-append_seam}
use Rattle.det_values.specs.Spelling.{spelled_u16, spelled_u32, an_element, spelled_drawn}

-- the bytes before the draws
filled_is : (old one two three shown : List ℕ) (at n : ℕ) → at ≡ length old → one ≡ old ++ 0 ∷ 0 ∷ [] → two ≡ one ++ shown
    → n ≡ length two - at - 2 → three ≡ take at two ++ (spelled_u16 n ++ drop (at + 2) two)
    → three ≡ old ++ (spelled_u16 (length shown) ++ shown)
filled_is old one two three shown at n a e1 e2 en e3 =
    let whole : two ≡ old ++ (0 ∷ 0 ∷ shown) = e2 ∙ ap (λ (xs : List ℕ). xs ++ shown) e1 ∙ append_assoc old (0 ∷ 0 ∷ []) shown in
    let t : take at two ≡ old = ap (λ (k : ℕ). take k two) a ∙ ap (take (length old)) whole ∙ take-append_seam old (0 ∷ 0 ∷ shown) in
    let l : at + 2 ≡ length one = omega (arith, a, ap length e1, length-append old (0 ∷ 0 ∷ [])) in
    let d : drop (at + 2) two ≡ shown = ap (λ (k : ℕ). drop k two) l ∙ ap (drop (length one)) e2 ∙ drop-append_seam one shown in
    let m : n ≡ length shown = omega (arith, en, l, ap length e2, length-append one shown) in
    e3 ∙ ap (λ (xs : List ℕ). xs ++ (spelled_u16 n ++ drop (at + 2) two)) t ∙ ap (λ (xs : List ℕ). old ++ (spelled_u16 n ++ xs)) d
    ∙ ap (λ (k : ℕ). old ++ (spelled_u16 k ++ shown)) m

pub put_is : (old one two three last shown : List ℕ) (at n draws : ℕ) → at ≡ length old → one ≡ old ++ 0 ∷ 0 ∷ [] → two ≡ one ++ shown
    → n ≡ length two - at - 2 → three ≡ take at two ++ (spelled_u16 n ++ drop (at + 2) two) → last ≡ three ++ spelled_u32 draws
    → last ≡ old ++ spelled_drawn (an_element shown draws)
unfolding spelled_drawn
put_is old one two three last shown at n draws a e1 e2 en e3 e4 =
    e4 ∙ ap (λ (xs : List ℕ). xs ++ spelled_u32 draws) (filled_is old one two three shown at n a e1 e2 en e3)
    ∙ append_assoc old (spelled_u16 (length shown) ++ shown) (spelled_u32 draws)
    ∙ ap (λ (xs : List ℕ). old ++ xs) (append_assoc (spelled_u16 (length shown)) shown (spelled_u32 draws))

-- the number of bytes before the draws
pub put_few : (old one two three shown : List ℕ) (at n : ℕ) → at ≡ length old → one ≡ old ++ 0 ∷ 0 ∷ [] → two ≡ one ++ shown
    → n ≡ length two - at - 2 → three ≡ take at two ++ (spelled_u16 n ++ drop (at + 2) two) → length shown ≤ 64
    → length three ≤ length old + 66
unfolding spelled_u16
put_few old one two three shown at n a e1 e2 en e3 few =
    omega (
      arith,
      ap length (filled_is old one two three shown at n a e1 e2 en e3),
      length-append old (spelled_u16 (length shown) ++ shown),
      length-append (spelled_u16 (length shown)) shown,
      few,
    )
