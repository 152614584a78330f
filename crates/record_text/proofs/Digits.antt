-- Hex digits, piece by piece.
use Rattle.std.proofs.Common.{◌≡◌, ℕ, List, [], ◌∷◌, ◌++◌, length, refl, sym, ap, ◌∙◌, append_assoc, arith}
use Rattle.std.proofs.lemmas.List.{append-nil}
use Rattle.std.specs.Prelude.{slice_index, ◌/◌, ◌%◌}
use Rattle.hex.specs.Hex.{encode_with, encode_lower, lower_digits}

encode-append : (t xs ys : List ℕ) → encode_with t (xs ++ ys) ≡ encode_with t xs ++ encode_with t ys
unfolding encode_with
encode-append t [] ys = refl
encode-append t (b ∷ xs) ys = ap (λ (l : List ℕ). slice_index t (b / 16) ∷ slice_index t (b % 16) ∷ l) (encode-append t xs ys)

encode-nil : (t : List ℕ) → encode_with t [] ≡ []
unfolding encode_with
encode-nil t = refl

-- a piece more
pub digits_next : (rest piece more mid new whole : List ℕ) → rest ≡ piece ++ more → mid ++ encode_lower rest ≡ whole
    → new ≡ mid ++ encode_lower piece
    → new ++ encode_lower more ≡ whole
digits_next rest piece more mid new whole parts h e =
    ap (λ (l : List ℕ). l ++ encode_lower more) e ∙ append_assoc mid (encode_lower piece) (encode_lower more)
    ∙ ap (λ (l : List ℕ). mid ++ l) (sym (encode-append lower_digits piece more)) ∙ ap (λ (l : List ℕ). mid ++ encode_lower l) (sym parts)
    ∙ h

-- no piece left
pub digits_done : (rest new whole : List ℕ) → length rest ≡ 0 → new ++ encode_lower rest ≡ whole → new ≡ whole
digits_done [] new whole none h = sym (append-nil new) ∙ ap (λ (l : List ℕ). new ++ l) (sym (encode-nil lower_digits)) ∙ h
digits_done (b ∷ rest) new whole none h = absurd (omega (arith, none))
