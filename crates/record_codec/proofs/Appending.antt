-- What a loop has appended, one item after another.
use Rattle.std.proofs.Common.{◌≡◌, ℕ, ◌+◌, ◌<◌, ◌≤◌, List, [], ◌∷◌, ◌++◌, length, take, get_or, sym, ap, subst, ◌∙◌, append_assoc}
use Rattle.std.proofs.lemmas.List.{append-nil, take_all, take_more}
use Rattle.std.proofs.lemmas.List.Elements.{All-push, All-nil}
use Rattle.std.proofs.lemmas.Grind.{flat_map-append}
use Rattle.std.specs.List.{flat_map, All}
use Rattle.det_values.specs.Spelling.{Grows}

-- the spellings of the first i items were appended, and these items are in their ranges
pub record HasPut {X : Type 0} (f : X → List ℕ) (P : X → Type 0) (xs : List X) (i : ℕ) (old new : List ℕ) : Type 0 where
  pub written : new ≡ old ++ flat_map f (take i xs)
  pub fields : All P (take i xs)

module _ {X : Type 0} (f : X → List ℕ) (P : X → Type 0) (xs : List X) where
  pub HasPut-begin : (old : List ℕ) → HasPut f P xs 0 old old
  HasPut-begin old = record { written = sym (append-nil old); fields = All-nil P }

  pub HasPut-at : (i : ℕ) (old mid new : List ℕ) (d : X) → i < length xs → HasPut f P xs i old mid → new ≡ mid ++ f (get_or xs i d)
      → P (get_or xs i d) → HasPut f P xs (i + 1) old new
  HasPut-at i old mid new d lt h e p =
      let x : X = get_or xs i d in
      let t : take (i + 1) xs ≡ take i xs ++ x ∷ [] = take_more xs i d lt in
      let one : flat_map f (take i xs ++ x ∷ []) ≡ flat_map f (take i xs) ++ (f x ++ []) = flat_map-append f (take i xs) (x ∷ []) in
      let two : f x ++ [] ≡ f x = append-nil (f x) in
      record {
        written = e ∙ ap (λ (ys : List ℕ). ys ++ f x) h.written ∙ append_assoc old (flat_map f (take i xs)) (f x)
            ∙ ap (λ (ys : List ℕ). old ++ (flat_map f (take i xs) ++ ys)) (sym two) ∙ ap (λ (ys : List ℕ). old ++ ys) (sym one)
            ∙ ap (λ (ys : List X). old ++ flat_map f ys) (sym t);
        fields = subst (All P) (sym t) (All-push P (take i xs) x h.fields p);
      }

  pub HasPut-next : (i : ℕ) (old mid new : List ℕ) (x : X) → i < length xs → x ≡ get_or xs i x → HasPut f P xs i old mid → new ≡ mid ++ f x
      → P x → HasPut f P xs (i + 1) old new
  HasPut-next i old mid new x lt is h e p = HasPut-at i old mid new x lt h (e ∙ ap (λ (y : X). mid ++ f y) is) (subst P is p)

  pub HasPut-done : (i : ℕ) (old new : List ℕ) → length xs ≤ i → HasPut f P xs i old new → (new ≡ old ++ flat_map f xs) × All P xs
  HasPut-done i old new le h =
      let t : take i xs ≡ xs = take_all i xs le in
      (h.written ∙ ap (λ (ys : List X). old ++ flat_map f ys) t, subst (All P) t h.fields)

  pub HasPut-grown : (i : ℕ) (old new : List ℕ) → HasPut f P xs i old new → Grows old new
  HasPut-grown i old new h = record { added = flat_map f (take i xs); is = h.written }

  pub HasPut-grows : (i : ℕ) (old new last : List ℕ) → HasPut f P xs i old new → Grows new last → Grows old last
  HasPut-grows i old new last h g =
      record {
        added = flat_map f (take i xs) ++ g.added;
        is = g.is ∙ ap (λ (ys : List ℕ). ys ++ g.added) h.written
            ∙ append_assoc old (flat_map f (take i xs)) g.added;
      }

pub grows_then : (a b c : List ℕ) → Grows a b → Grows b c → Grows a c
grows_then a b c p q =
    record { added = p.added ++ q.added; is = q.is ∙ ap (λ (x : List ℕ). x ++ q.added) p.is ∙ append_assoc a p.added q.added }
