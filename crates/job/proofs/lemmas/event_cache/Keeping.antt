-- The last items of a list.
use Rattle.std.proofs.Common.{◌≡◌, ℕ, ◌+◌, ◌-◌, List, [], ◌++◌, length, drop, refl, sym, ap, ◌∙◌, arith, length-append, length-drop}
use Rattle.std.proofs.Common.{drop-drop, append_assoc, drop_at, inl, inr}
use Rattle.circular_buffer.proofs.Places.{below_or_not}
use Rattle.std.proofs.lemmas.List.{drop-append-le, drop_all}
use Rattle.circular_buffer.specs.Buffer.{keep_last}

module _ {X : Type 0} where
  pub kept_first : (n : ℕ) (xs ys : List X) → keep_last n (keep_last n xs ++ ys) ≡ keep_last n (xs ++ ys)
  kept_first n xs ys =
      let k : ℕ = length xs - n in
      let joined : drop k (xs ++ ys) ≡ drop k xs ++ ys = drop-append-le k xs ys (omega arith) in
      let long : length (drop k xs ++ ys) ≡ length (xs ++ ys) - k = ap length (sym joined) ∙ length-drop k (xs ++ ys) in
      let number : k + (length (drop k xs ++ ys) - n) ≡ length (xs ++ ys) - n = omega (arith, length-append xs ys) in
      ap (drop (length (drop k xs ++ ys) - n)) (sym joined) ∙ drop-drop (length (drop k xs ++ ys) - n) k (xs ++ ys)
      ∙ ap (λ m. drop m (xs ++ ys)) number

  -- two lists are added one after the other
  pub kept_twice : (n : ℕ) (xs ys zs : List X) → keep_last n (keep_last n (xs ++ ys) ++ zs) ≡ keep_last n (xs ++ (ys ++ zs))
  kept_twice n xs ys zs = kept_first n (xs ++ ys) zs ∙ ap (keep_last n) (append_assoc xs ys zs)

  -- what no longer fits of the second list doesn't matter
  pub kept_second : (n : ℕ) (xs ys : List X) → keep_last n (xs ++ keep_last n ys) ≡ keep_last n (xs ++ ys)
  kept_second n xs ys = elim (below_or_not (length ys) n) [
    | inl fits ↦ let none : length ys - n ≡ 0 = omega arith in ap (λ k. keep_last n (xs ++ drop k ys)) none
    | inr long ↦
        let k : ℕ = length ys - n in
        let cut : length (drop k ys) ≡ n = omega (arith, length-drop k ys) in
        let front : length (xs ++ drop k ys) - n ≡ length xs = omega (arith, length-append xs (drop k ys)) in
        let whole : length xs + k ≡ length (xs ++ ys) - n = omega (arith, length-append xs ys) in
        ap (λ m. drop m (xs ++ drop k ys)) front ∙ drop_at xs (drop k ys) (length xs) refl
        ∙ ap (drop k) (sym (drop_at xs ys (length xs) refl)) ∙ drop-drop k (length xs) (xs ++ ys) ∙ ap (λ m. drop m (xs ++ ys)) whole
  ]

  pub kept_in : (n : ℕ) (xs ys : List X) → keep_last n (keep_last n xs ++ keep_last n ys) ≡ keep_last n (xs ++ ys)
  kept_in n xs ys = kept_first n xs (keep_last n ys) ∙ kept_second n xs ys

  pub kept_none : (n : ℕ) → keep_last {X = X} n [] ≡ []
  kept_none n = drop_all (0 - n) [] (omega arith)
