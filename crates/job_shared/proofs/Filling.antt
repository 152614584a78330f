-- An array that is filled part by part, and its beginning.
use Rattle.std.proofs.Common.{◌≡◌, ℕ, ◌+◌, ◌-◌, ◌≤◌, List, ◌++◌, take, drop, length, ap, ◌∙◌, arith, rules, append_assoc}
use Rattle.std.proofs.lemmas.Slice.{take-put_mid, overwrites}
use Rattle.std.proofs.lemmas.List.{take_at}
use borrow.Rule.Slice.PartMut.{put_mid}

-- the beginning of an array into which three parts were written, one after another
pub filled_parts : (zeros first middle last : List ℕ) (a n b : ℕ) → length first ≡ a → length middle ≡ n → length last ≡ b →
    (a + n) + b ≤ length zeros →
    take ((a + n) + b) (put_mid (a + n) (((a + n) + b) - (a + n)) (put_mid a ((a + n) - a) (first ++ drop a zeros) middle) last)
    ≡ first ++ (middle ++ last)
filled_parts zeros first middle last a n b f m l room =
    let one : List ℕ = first ++ drop a zeros in
    let two : List ℕ = put_mid a ((a + n) - a) one middle in
    let few : a ≤ length one = search (rules, overwrites) in
    let more : a + n ≤ length two = search (rules, overwrites) in
    take-put_mid (a + n) (((a + n) + b) - (a + n)) two last ((a + n) + b) (omega arith) more
    ∙ ap (λ xs. xs ++ last) (take-put_mid a ((a + n) - a) one middle (a + n) (omega arith) few
    ∙ ap (λ xs. xs ++ middle) (take_at first (drop a zeros) a f))
    ∙ append_assoc first middle last
