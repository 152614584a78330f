-- An element that was put has fields in their ranges.
use Rattle.std.proofs.Common.{◌≡◌, ℕ, zero, suc, ◌<◌, ◌≤◌, ◌^◌, List, [], ◌∷◌, ◌++◌, length, subst, arith}
use Rattle.std.proofs.lemmas.List.Elements.{All-tail}
use Rattle.det_values.specs.Spelling.{AreBytes, spelled_u16, spelled_u32, an_element, spelled_drawn, IsDrawn}

bytes_behind : (xs ys : List ℕ) → AreBytes (xs ++ ys) → AreBytes ys
bytes_behind [] ys h = h
bytes_behind (x ∷ xs) ys h = bytes_behind xs ys (All-tail (λ b. b < 256) x (xs ++ ys) h)

bytes_before : (xs ys : List ℕ) → AreBytes (xs ++ ys) → AreBytes xs
bytes_before [] ys h k d lt = absurd (omega arith)
bytes_before (x ∷ xs) ys h zero d lt = h zero d (omega arith)
bytes_before (x ∷ xs) ys h (suc k) d lt = bytes_before xs ys (All-tail (λ b. b < 256) x (xs ++ ys) h) k d (omega arith)

-- the appended numbers are bytes, since all items of a `Vec<u8>` are
pub put_fits : (old last shown : List ℕ) (draws : ℕ) → last ≡ old ++ spelled_drawn (an_element shown draws) → AreBytes last
    → length shown ≤ 64 → draws < 2 ^ 32 → IsDrawn (an_element shown draws)
unfolding spelled_drawn
put_fits old last shown draws e small short fits =
    let all : AreBytes (old ++ (spelled_u16 (length shown) ++ (shown ++ spelled_u32 draws))) = subst AreBytes e small in
    record {
      short = short;
      bytes = bytes_before shown (spelled_u32 draws) (bytes_behind (spelled_u16 (length shown)) (shown ++ spelled_u32 draws)
          (bytes_behind old (spelled_u16 (length shown) ++ (shown ++ spelled_u32 draws)) all));
      draws = fits;
    }
