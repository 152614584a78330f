-- The slots of children in a row: slot k is child k.
use Rattle.std.proofs.Common.{◌≡◌, ◌≢◌, ◌<◌, ◌≤◌, inl, inr, ℕ, zero, suc, ◌+◌, List, [], ◌∷◌, take, refl, sym, ap, ◌∙◌, subst, arith}
use Rattle.std.specs.List.{AllByRecursion}
use Rattle.det_io.specs.Shelf.{ShelfState, IsAtEnd}
use Rattle.copies.specs.CompareCopies.{AreDifferent, AllEnd, CopyEnds}

-- n slots from slot k on
unfoldable pub slots_from : (k n : ℕ) → List ℕ
slots_from k zero = []
slots_from k (suc n) = k ∷ slots_from (k + 1) n

-- the first of them
take-slots : (k n m : ℕ) → n ≤ m → take n (slots_from k m) ≡ slots_from k n
unfolding slots_from
take-slots k zero m h = refl
take-slots k (suc n) zero h = absurd (omega arith)
take-slots k (suc n) (suc m) h = ap (λ slots. k ∷ slots) (take-slots (k + 1) n m (omega arith))

slots-8 : slots_from 0 8 ≡ 0 ∷ 1 ∷ 2 ∷ 3 ∷ 4 ∷ 5 ∷ 6 ∷ 7 ∷ []
unfolding slots_from
slots-8 = refl

-- the first of the numbers from 0 to 7
pub slots-are : (n : ℕ) → n ≤ 8 → take n (0 ∷ 1 ∷ 2 ∷ 3 ∷ 4 ∷ 5 ∷ 6 ∷ 7 ∷ []) ≡ slots_from 0 n
slots-are n h = ap (take n) (sym slots-8) ∙ take-slots 0 n 8 h

all-from : (P : ℕ → Type 0) (k n : ℕ) → ((j : ℕ) → k ≤ j → j < k + n → P j) → AllByRecursion P (slots_from k n)
unfolding slots_from
all-from P k zero each = tt
all-from P k (suc n) each =
    (each k (omega arith) (omega arith), all-from P (k + 1) n (λ j from below. each j (omega arith) (omega arith)))

different-from : (k n : ℕ) → AreDifferent (slots_from k n)
unfolding slots_from
different-from k zero = tt
different-from k (suc n) = (all-from (λ other. k ≢ other) (k + 1) n (λ j from below. (λ e. omega arith)), different-from (k + 1) n)

pub are-different : (n : ℕ) → AreDifferent (slots_from 0 n)
are-different n = different-from 0 n

-- all children are at their ends
ends-from : (state : ShelfState) (k n j : ℕ) → AllEnd state (slots_from k n) → j < n → IsAtEnd state (k + j)
unfolding slots_from
ends-from state k zero j all h = absurd (omega arith)
ends-from state k (suc n) zero all h = let same : k ≡ k + zero = omega arith in subst (IsAtEnd state) same all.0
ends-from state k (suc n) (suc j) all h =
    let same : k + 1 + j ≡ k + suc j = omega arith in
    subst (IsAtEnd state) same (ends-from state (k + 1) n j all.1 (omega arith))

pub all-end : (state : ShelfState) (n j : ℕ) → AllEnd state (slots_from 0 n) → j < n → IsAtEnd state j
all-end state n j all h = let same : 0 + j ≡ j = omega arith in subst (IsAtEnd state) same (ends-from state 0 n j all h)

-- the child that is at its end is one of these
copy-from : (state : ShelfState) (k n copy : ℕ) → CopyEnds state k (slots_from k n) copy → (copy < k + n) × IsAtEnd state copy
unfolding slots_from
copy-from state k zero copy h = absurd h
copy-from state k (suc n) copy (inl at) = (let e = at.0 in omega arith, subst (IsAtEnd state) at.0 at.1)
copy-from state k (suc n) copy (inr more) =
    let rest = copy-from state (k + 1) n copy more in (let b = rest.0 in omega arith, rest.1)

pub copy-ends : (state : ShelfState) (n copy : ℕ) → CopyEnds state 0 (slots_from 0 n) copy → (copy < n) × IsAtEnd state copy
copy-ends state n copy h = let at = copy-from state 0 n copy h in (let b = at.0 in omega arith, at.1)
