-- What moves in the places of a window at a turn.
use Rattle.std.proofs.Common.{◌≡◌, ℕ, ◌+◌, ◌-◌, ◌*◌, ◌≤◌, ℤ, List, ◌++◌, length, take, drop, sym, ap, ◌∙◌, arith, length-drop}
use Rattle.std.specs.List.{copy_within}
use Rattle.std.proofs.lemmas.List.{length-take-le, drop-drop}
use Rattle.std.proofs.lemmas.List.Edits.{take-paste, drop-paste, length-paste}
use Rattle.std.proofs.lemmas.Slice.{between_is, drop-append-drop}
use lib.Seq.{paste}

-- first the values that stay move to the front, and then those that arrived move after them
pub moved : (before between after : List ℤ) (gone seen capacity arriving : ℕ) → gone ≤ seen → seen ≤ capacity → arriving ≤ capacity
    → 2 * capacity ≤ length before → between ≡ copy_within before gone seen 0
    → after ≡ copy_within between capacity (capacity + arriving) (seen - gone)
    → take (seen - gone + arriving) after ≡ drop gone (take seen before) ++ take arriving (drop capacity before)
moved before between after gone seen capacity arriving few fits waiting room first second =
    let kept : ℕ = seen - gone in
    let front : 0 + kept ≡ kept = omega arith in
    let part : kept ≤ length (drop gone before) = omega (arith, length-drop gone before) in
    let stay : take kept between ≡ drop gone (take seen before) =
    ap (take kept) first ∙ ap (λ n. take n (copy_within before gone seen 0)) (sym front)
    ∙ take-paste before 0 (drop gone before) kept (omega arith) part ∙ between_is before gone seen in
    let same : drop capacity between ≡ drop capacity before =
    ap (drop capacity) (first ∙ ap (λ n. take kept (drop gone before) ++ drop n before) front)
    ∙ drop-append-drop kept before (take kept (drop gone before)) capacity (omega arith) (length-take-le kept (drop gone before) part) in
    let long : length between ≡ length before = ap length first ∙ length-paste before 0 (drop gone before) kept (omega arith) part in
    let count : capacity + arriving - capacity ≡ arriving = omega arith in
    ap (take (kept + arriving)) (second ∙ ap (paste between kept (drop capacity between)) count)
    ∙ take-paste between kept (drop capacity between) arriving (omega arith) (omega (arith, length-drop capacity between))
    ∙ (λ i. stay i ++ take arriving (same i))

-- a copy leaves the elements after the part that it writes
pub drop-copied : (xs : List ℤ) (i j at n : ℕ) → j ≤ length xs → at ≤ length xs → at + (j - i) ≤ n
    → drop n (copy_within xs i j at) ≡ drop n xs
drop-copied xs i j at n some within past =
    let count : ℕ = j - i in
    let m : ℕ = n - (at + count) in
    let rest : n ≡ at + count + m = omega arith in
    let part : count ≤ length (drop i xs) = omega (arith, length-drop i xs) in
    ap (λ k. drop k (copy_within xs i j at)) rest ∙ sym (drop-drop m (at + count) (copy_within xs i j at))
    ∙ ap (drop m) (drop-paste xs at (drop i xs) count within part) ∙ drop-drop m (at + count) xs
    ∙ ap (λ k. drop k xs) (sym rest)
