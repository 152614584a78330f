-- What a loop has appended of numbered things.
use Rattle.std.proofs.Common.{◌≡◌, ℕ, suc, ◌+◌, ◌<◌, ◌≤◌, List, [], ◌∷◌, ◌++◌, length, drop, get_or, refl, sym, ap, ◌∙◌, append_assoc}
use Rattle.std.proofs.Common.{drop-cons, arith}
use Rattle.std.proofs.lemmas.List.{append-nil}
use Rattle.record_text.specs.Words.{numbered_texts}

-- the texts of the first i things were appended, and these are left
pub record HasNumbered {X : Type 0} (text : ℕ → X → List ℕ) (xs : List X) (i : ℕ) (left : List X) (old new : List ℕ) : Type 0 where
  pub written : new ++ numbered_texts text i left ≡ old ++ numbered_texts text 0 xs
  pub counted : i + length left ≡ length xs

module _ {X : Type 0} (text : ℕ → X → List ℕ) where
  numbered_texts-cons : (i : ℕ) (x : X) (xs : List X) → numbered_texts text i (x ∷ xs) ≡ text i x ++ numbered_texts text (i + 1) xs
  unfolding numbered_texts
  numbered_texts-cons i x xs = refl

  numbered_texts-nil : (i : ℕ) → numbered_texts text i [] ≡ []
  unfolding numbered_texts
  numbered_texts-nil i = refl

  pub HasNumbered-begin : (xs : List X) (old : List ℕ) → HasNumbered text xs 0 xs old old
  HasNumbered-begin xs old = record { written = refl; counted = omega arith }

  pub HasNumbered-next : (xs : List X) (i : ℕ) (left more : List X) (old mid new : List ℕ) (x : X) → left ≡ x ∷ more
      → HasNumbered text xs i left old mid
      → new ≡ mid ++ text i x → HasNumbered text xs (i + 1) more old new
  HasNumbered-next xs i left more old mid new x is h e =
      let one : numbered_texts text i left ≡ text i x ++ numbered_texts text (i + 1) more = ap (numbered_texts text i) is ∙ numbered_texts-cons i x more in
      record {
        written = ap (λ (ys : List ℕ). ys ++ numbered_texts text (i + 1) more) e ∙ append_assoc mid (text i x) (numbered_texts text (i + 1)
            more)
            ∙ ap (λ (ys : List ℕ). mid ++ ys) (sym one) ∙ h.written;
        counted = omega (arith, h.counted, ap length is);
      }

  -- one more of a slice
  pub HasNumbered-at : (xs : List X) (i : ℕ) (old mid new : List ℕ) (x : X) → i < length xs → x ≡ get_or xs i x
      → HasNumbered text xs i (drop i xs) old mid
      → new ≡ mid ++ text i x → HasNumbered text xs (i + 1) (drop (i + 1) xs) old new
  HasNumbered-at xs i old mid new x lt is h e =
      let step : suc i ≡ i + 1 = omega arith in
      let d : drop i xs ≡ x ∷ drop (i + 1) xs = drop-cons xs i x lt ∙ ap (λ (y : X). y ∷ drop (suc i) xs) (sym is)
      ∙ ap (λ (n : ℕ). x ∷ drop n xs) step in
      HasNumbered-next xs i (drop i xs) (drop (i + 1) xs) old mid new x d h e

  pub HasNumbered-ends : (xs : List X) (i : ℕ) (left : List X) (old new : List ℕ) → left ≡ [] → HasNumbered text xs i left old new
      → new ≡ old ++ numbered_texts text 0 xs
  HasNumbered-ends xs i left old new none h =
      let e : numbered_texts text i left ≡ [] = ap (numbered_texts text i) none ∙ numbered_texts-nil i in
      sym (append-nil new) ∙ ap (λ (ys : List ℕ). new ++ ys) (sym e) ∙ h.written

  pub HasNumbered-done : (xs : List X) (i : ℕ) (left : List X) (old new : List ℕ) → length xs ≤ i → HasNumbered text xs i left old new
      → new ≡ old ++ numbered_texts text 0 xs
  HasNumbered-done xs i [] old new le h = HasNumbered-ends xs i [] old new refl h
  HasNumbered-done xs i (x ∷ left) old new le h = absurd (omega (arith, le, h.counted))
