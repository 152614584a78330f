-- The two bytes of a number overwrite two others.
use Rattle.std.proofs.Common.{◌≡◌, ℕ, zero, suc, ◌+◌, ◌≤◌, List, [], ◌∷◌, ◌++◌, length, take, drop, get_or, set, refl, ap}
use Rattle.std.proofs.Common.{◌∙◌, arith}
use Rattle.std.specs.Int.{w16, to_be_bytes}
use Rattle.det_values.specs.Spelling.{spelled_u16}

two_set : (xs : List ℕ) (at p q : ℕ) → at + 2 ≤ length xs → set (set xs at p) (at + 1) q ≡ take at xs ++ (p ∷ q ∷ drop (at + 2) xs)
two_set [] at p q h = absurd (omega arith)
two_set (x ∷ []) at p q h = absurd (omega arith)
two_set (x ∷ y ∷ xs) zero p q h = refl
two_set (x ∷ y ∷ xs) (suc at) p q h =
    let k : suc at + 1 ≡ suc (at + 1) = omega arith in
    let l : suc at + 2 ≡ suc (at + 2) = omega arith in
    rw (k, l) (ap (λ (ys : List ℕ). x ∷ ys) (two_set (y ∷ xs) at p q (omega arith)))

two_bytes : (n : ℕ) (bytes rest : List ℕ) → bytes ≡ to_be_bytes w16 n → get_or bytes 0 0 ∷ get_or bytes 1 0 ∷ rest ≡ spelled_u16 n ++ rest
unfolding spelled_u16
two_bytes n bytes rest e = rw e refl

pub filled : (xs : List ℕ) (at n : ℕ) (bytes : List ℕ) → at + 2 ≤ length xs → bytes ≡ to_be_bytes w16 n
    → set (set xs at (get_or bytes 0 0)) (at + 1) (get_or bytes 1 0) ≡ take at xs ++ (spelled_u16 n ++ drop (at + 2) xs)
filled xs at n bytes h e = two_set xs at (get_or bytes 0 0) (get_or bytes 1 0) h
    ∙ ap (λ (ys : List ℕ). take at xs ++ ys) (two_bytes n bytes (drop (at + 2) xs) e)
