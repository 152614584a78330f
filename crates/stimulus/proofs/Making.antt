-- The stimulus that is made of a number.
use Rattle.std.proofs.Common.{◌≡◌, ℕ, ◌+◌, ◌*◌, ◌%◌, ◌^◌, ◌<◌, ◌≤◌, ℤ, pos, ◌-ℤ◌, to_z, of_z, w64, List, [], ◌++◌, length, refl, ap, ◌∙◌}
use Rattle.std.proofs.Common.{arith, append_assoc, add-one, length-append, codes}
use lib.Signed.{mag}
use Rattle.std.specs.Fmt.{decimal, signed_decimal}
use Rattle.std.proofs.lemmas.Fmt.{length-decimal-le, length_signed_le}
use Rattle.std.proofs.lemmas.Int.{ints}
use Rattle.rand_xoshiro.specs.SplitMix64.{mix_u64}
use Rattle.stimulus.specs.GeneratedText.{state_at, word, made_value, block_text, made_blocks}

pub word_is : (k n x r y : ℕ) → x ≡ state_at k n → (r, y) ≡ mix_u64 x → r ≡ word k n
unfolding word
word_is k n x r y at e = ap (λ (p : ℕ × ℕ). p.0) e ∙ ap (λ z. (mix_u64 z).0) at

pub state_is : (k n x r y : ℕ) → x ≡ state_at k n → (r, y) ≡ mix_u64 x → y ≡ state_at k (n + 1)
unfolding state_at
state_is k n x r y at e = rw add-one (ap (λ (p : ℕ × ℕ). p.1) e ∙ ap (λ z. (mix_u64 z).1) at)

pub value_is : (x : ℕ) → to_z w64 (of_z w64 (to_z w64 (x % 2000001) -ℤ pos 1000000)) ≡ made_value x
value_is x = omega (arith, ints)

pub block_short : (time : ℕ) (first second : ℤ) → time < 2 ^ 64 → mag first < 2 ^ 63 → mag second < 2 ^ 63
    → length (block_text time first second) ≤ 100
block_short time first second t f s =
    let a : length (decimal time) ≤ 20 = length-decimal-le 20 time (omega arith) (omega arith) t in
    let b : length (signed_decimal first) ≤ 20 = length_signed_le 19 first (omega arith) f in
    let c : length (signed_decimal second) ≤ 20 = length_signed_le 19 second (omega arith) s in
    simp length-append (omega arith)

pub made_more : (k n : ℕ) (text lines : List ℕ) (first second : ℤ) → text ≡ codes "stim 1\n" ++ made_blocks k n
    → first ≡ made_value (word k (2 * n)) → second ≡ made_value (word k (2 * n + 1)) → lines ≡ block_text (10000000 * n) first second
    → text ++ lines ≡ codes "stim 1\n" ++ made_blocks k (n + 1)
unfolding made_blocks
made_more k n text lines first second before one two is =
    rw add-one ((λ i. before i ++ (is ∙ (λ j. block_text (10000000 * n) (one j) (two j))) i)
    ∙ append_assoc (codes "stim 1\n") (made_blocks k n) (block_text (10000000 * n) (made_value (word k (2 * n)))
    (made_value (word k (2 * n + 1)))))

pub lines_short : (bytes : List ℕ) (time : ℕ) (first second : ℤ) → bytes ≡ block_text time first second → time < 2 ^ 64 → mag first < 2 ^ 63
    → mag second < 2 ^ 63 → length bytes ≤ 100
lines_short bytes time first second e t f s =
    let short = block_short time first second t f s in omega (arith, ap (λ (l : List ℕ). length l) e, short)

pub made_none : (k : ℕ) → made_blocks k 0 ≡ []
unfolding made_blocks
made_none k = refl

pub at_start : (k : ℕ) → state_at k 0 ≡ k
unfolding state_at
at_start k = refl
