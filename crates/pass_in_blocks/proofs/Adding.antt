-- The sums of two lists, number by number.
use Rattle.std.proofs.Common.{◌≡◌, ℕ, zero, suc, ◌+◌, ◌-◌, ◌*◌, ◌<◌, ◌≤◌, List, [], ◌∷◌, ◌++◌, length, take, drop}
use Rattle.std.proofs.Common.{refl, sym, ap, ◌∙◌, arith}
use Prim.Native.Nat.{min}
use Rattle.std.specs.List.{All}
use Rattle.std.proofs.Math.Seq.{take-add}
use Rattle.std.proofs.lemmas.List.{length-take, length-take-le, length-drop}
use Rattle.std.proofs.lemmas.List.Elements.{All-nil, All-cons, All-head, All-tail}
use Rattle.job.specs.Cycle.{added}

pub length-added : (xs ys : List ℕ) → length xs ≡ length ys → length (added xs ys) ≡ length xs
length-added [] ys e = refl
length-added (x ∷ xs) [] e = absurd (omega arith)
length-added (x ∷ xs) (y ∷ ys) e = ap suc (length-added xs ys (omega arith))

pub All-added : (a b : ℕ) (xs ys : List ℕ) → All (λ n. n ≤ a) xs → All (λ n. n ≤ b) ys → All (λ n. n ≤ a + b) (added xs ys)
All-added a b [] ys h k = All-nil (λ n. n ≤ a + b)
All-added a b (x ∷ xs) [] h k = All-nil (λ n. n ≤ a + b)
All-added a b (x ∷ xs) (y ∷ ys) h k =
    let p : x ≤ a = All-head (λ n. n ≤ a) x xs h in
    let q : y ≤ b = All-head (λ n. n ≤ b) y ys k in
    All-cons (λ n. n ≤ a + b) (x + y) (added xs ys) (omega arith)
    (All-added a b xs ys (All-tail (λ n. n ≤ a) x xs h) (All-tail (λ n. n ≤ b) y ys k))

pub added-append : (xs more ys others : List ℕ) → length xs ≡ length ys
    → added (xs ++ more) (ys ++ others) ≡ added xs ys ++ added more others
added-append [] more [] others e = refl
added-append [] more (y ∷ ys) others e = absurd (omega (arith, e))
added-append (x ∷ xs) more [] others e = absurd (omega (arith, e))
added-append (x ∷ xs) more (y ∷ ys) others e = ap (λ (l : List ℕ). (x + y) ∷ l) (added-append xs more ys others (omega (arith, e)))

take_bounds : (n : ℕ) (xs : List ℕ) → (length (take n xs) ≤ n) × (length (take n xs) ≤ length xs)
take_bounds zero xs = (omega arith, omega arith)
take_bounds (suc n) [] = (omega arith, omega arith)
take_bounds (suc n) (x ∷ xs) = let i = take_bounds n xs in (omega (arith, i.0), omega (arith, i.1))

take_some : (n : ℕ) (xs : List ℕ) → 0 < n → 0 < length xs → 0 < length (take n xs)
take_some zero xs n l = absurd (omega (arith, n))
take_some (suc n) [] m l = absurd (omega (arith, l))
take_some (suc n) (x ∷ xs) m l = omega arith

pub same_takes : {A B : Type 0} (n k : ℕ) (xs : List A) (ys : List B) → length xs ≡ length ys
    → length (take n (drop k xs)) ≡ length (take n (drop k ys))
same_takes n k xs ys same =
    length-take n (drop k xs) ∙ ap (λ l. min n l) (length-drop k xs ∙ ap (λ l. l - k) same ∙ sym (length-drop k ys))
    ∙ sym (length-take n (drop k ys))

-- the sums of block b beside those of the blocks before it
pub record Fits (xs ys : List ℕ) (b : ℕ) (so_far block : List ℕ) : Type 0 where
  pub before : length so_far ≡ 256 * b
  pub some : 0 < length block
  pub few : length block ≤ 256
  pub within : 256 * b + length block ≤ length xs
  pub more : so_far ++ block ≡ added (take (256 * (b + 1)) xs) (take (256 * (b + 1)) ys)

pub fits : (xs ys : List ℕ) (b : ℕ) (left right so_far block : List ℕ) → length xs ≡ length ys → 256 * b < length xs
    → left ≡ take 256 (drop (256 * b) xs) → right ≡ take 256 (drop (256 * b) ys)
    → so_far ≡ added (take (256 * b) xs) (take (256 * b) ys) → block ≡ added left right → Fits xs ys b so_far block
fits xs ys b left right so_far block same inside at_left at_right is_so_far is_block =
    let l : length (take (256 * b) xs) ≡ 256 * b = length-take-le (256 * b) xs (omega arith) in
    let r : length (take (256 * b) ys) ≡ 256 * b = length-take-le (256 * b) ys (omega (arith, same)) in
    let equal : length left ≡ length right = ap length at_left ∙ same_takes 256 (256 * b) xs ys same ∙ sym (ap length at_right) in
    let n : length block ≡ length left = ap length is_block ∙ length-added left right equal in
    let m : length left ≡ length (take 256 (drop (256 * b) xs)) = ap length at_left in
    let d : length (drop (256 * b) xs) + 256 * b ≡ length xs = omega (arith, length-drop (256 * b) xs) in
    let t = take_bounds 256 (drop (256 * b) xs) in
    let next : 256 * b + 256 ≡ 256 * (b + 1) = omega arith in
    let x : take (256 * b) xs ++ left ≡ take (256 * (b + 1)) xs =
    ap (λ (k : List ℕ). take (256 * b) xs ++ k) at_left ∙ sym (take-add (256 * b) 256 xs) ∙ ap (λ k. take k xs) next in
    let y : take (256 * b) ys ++ right ≡ take (256 * (b + 1)) ys =
    ap (λ (k : List ℕ). take (256 * b) ys ++ k) at_right ∙ sym (take-add (256 * b) 256 ys) ∙ ap (λ k. take k ys) next in
    record {
      before = ap length is_so_far ∙ length-added (take (256 * b) xs) (take (256 * b) ys) (l ∙ sym r) ∙ l;
      some = omega (arith, n, m, take_some 256 (drop (256 * b) xs) (omega arith) (omega (arith, d)));
      few = omega (arith, n, m, t.0);
      within = omega (arith, n, m, d, t.1);
      more = (λ i. is_so_far i ++ is_block i)
          ∙ sym (added-append (take (256 * b) xs) left (take (256 * b) ys) right (l ∙ sym r)) ∙ (λ i. added (x i) (y i));
    }
