-- An element whose length is filled in at the end.
use Rattle.std.proofs.Common.{◌≡◌, ℕ, ◌+◌, ◌-◌, List, [], ◌∷◌, ◌++◌, length, take, drop}
use Rattle.std.proofs.Common.{ap, ◌∙◌, append_assoc, arith, length-append}
use Rattle.std.proofs.Math.Seq.{take-append_seam, drop-append_seam}
use Rattle.det_values.specs.Spelling.{spelled_u16}
use Rattle.cycle_engine.specs.Elements.{with_length}

pub put-is : (old one two three shown : List ℕ) (at n : ℕ) → at ≡ length old → one ≡ old ++ 0 ∷ 0 ∷ [] → two ≡ one ++ shown
    → n ≡ length two - at - 2 → three ≡ take at two ++ (spelled_u16 n ++ drop (at + 2) two) → three ≡ old ++ with_length shown
put-is old one two three shown at n a e1 e2 en e3 =
    let whole : two ≡ old ++ (0 ∷ 0 ∷ shown) = e2 ∙ ap (λ (xs : List ℕ). xs ++ shown) e1 ∙ append_assoc old (0 ∷ 0 ∷ []) shown in
    let front : take at two ≡ old = ap (λ (k : ℕ). take k two) a ∙ ap (take (length old)) whole ∙ take-append_seam old (0 ∷ 0 ∷ shown) in
    let behind : at + 2 ≡ length one = omega (arith, a, ap length e1, length-append old (0 ∷ 0 ∷ [])) in
    let last : drop (at + 2) two ≡ shown = ap (λ (k : ℕ). drop k two) behind ∙ ap (drop (length one)) e2 ∙ drop-append_seam one shown in
    let number : n ≡ length shown = omega (arith, en, behind, ap length e2, length-append one shown) in
    e3 ∙ ap (λ (xs : List ℕ). xs ++ (spelled_u16 n ++ drop (at + 2) two)) front
    ∙ ap (λ (xs : List ℕ). old ++ (spelled_u16 n ++ xs)) last ∙ ap (λ (k : ℕ). old ++ (spelled_u16 k ++ shown)) number
