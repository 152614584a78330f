-- The texts of things that are appended one after another.
use Rattle.std.proofs.Common.{◌≡◌, ℕ, suc, ◌+◌, ◌<◌, ◌≤◌, List, [], ◌∷◌, ◌++◌, length, drop, get_or, refl, sym, ap, ◌∙◌, append_assoc}
use Rattle.std.proofs.Common.{append-nil, drop-cons, arith}
use Rattle.std.proofs.lemmas.List.{drop_all}
use Rattle.std.specs.Prelude.{codes}
use Rattle.std.specs.List.{flat_map}
use Rattle.record_json.specs.Texts.{listed}

module _ {X : Type 0} (f : X → List ℕ) (xs : List X) where
  left_at : (i : ℕ) (x : X) → i < length xs → x ≡ get_or xs i x → drop i xs ≡ x ∷ drop (i + 1) xs
  left_at i x lt is = let step : suc i ≡ i + 1 = omega arith in
      drop-cons xs i x lt ∙ ap (λ (y : X). y ∷ drop (suc i) xs) (sym is) ∙ ap (λ (n : ℕ). x ∷ drop n xs) step

  -- the texts of the things from the i-th on are left; one more was appended
  pub left_next : (i : ℕ) (all old new : List ℕ) (x : X) → i < length xs → x ≡ get_or xs i x → old ++ flat_map f (drop i xs) ≡ all
      → new ≡ old ++ f x → new ++ flat_map f (drop (i + 1) xs) ≡ all
  left_next i all old new x lt is h e =
      ap (λ (l : List ℕ). l ++ flat_map f (drop (i + 1) xs)) e ∙ append_assoc old (f x) (flat_map f (drop (i + 1) xs))
      ∙ ap (λ (ys : List X). old ++ flat_map f ys) (sym (left_at i x lt is)) ∙ h

  -- none is left
  pub left_none : (i : ℕ) (all new : List ℕ) → length xs ≤ i → new ++ flat_map f (drop i xs) ≡ all → new ≡ all
  left_none i all new le h = sym (append-nil new) ∙ ap (λ (ys : List X). new ++ flat_map f ys) (sym (drop_all i xs le)) ∙ h

-- the first thing, and then the others, each after a comma
pub listed_put : {X : Type 0} (text : X → List ℕ) (xs : List X) (old mid new : List ℕ) (x : X) → 0 < length xs → x ≡ get_or xs 0 x
    → mid ≡ old ++ text x → new ≡ mid ++ flat_map (λ y. codes "," ++ text y) (drop 1 xs) → new ≡ old ++ listed text xs
listed_put text [] old mid new x some is e f = absurd (omega arith)
listed_put text (y ∷ ys) old mid new x some is e f =
    f ∙ ap (λ (l : List ℕ). l ++ flat_map (λ z. codes "," ++ text z) ys) (e ∙ ap (λ z. old ++ text z) is)
    ∙ append_assoc old (text y) (flat_map (λ z. codes "," ++ text z) ys)
