-- Items of lists at an index, as they are seen through a function, for shelves and spawners in memory.
use Rattle.std.proofs.Common.{◌≡◌, ◌≢◌, ◌<◌, ℕ, zero, suc, List, [], ◌∷◌, ◌++◌, length, set, map, get_or, refl, sym, ◌∙◌, ap, arith}
use Rattle.std.specs.Prelude.{Some}
use Rattle.std.specs.List.{slice_get}
use Rattle.std.specs.Option.{option_map}
use Rattle.std.proofs.lemmas.List.{map-set, map-append, length-map}
use Rattle.std.proofs.lemmas.Option.{slice_get-get_or, slice_get-map}

pub length-none : {X : Type 0} (xs : List X) → length xs ≡ 0 → xs ≡ []
length-none [] h = refl
length-none (x ∷ xs) h = absurd (omega arith)

set-at : {X : Type 0} (xs : List X) (i : ℕ) (v w : X) → slice_get xs i ≡ Some w → slice_get (set xs i v) i ≡ Some v
set-at [] i v w h = cc
set-at (x ∷ xs) zero v w h = refl
set-at (x ∷ xs) (suc i) v w h = set-at xs i v w h

set-beside : {X : Type 0} (xs : List X) (i k : ℕ) (v : X) → k ≢ i → slice_get (set xs i v) k ≡ slice_get xs k
set-beside [] i k v ne = refl
set-beside (x ∷ xs) zero zero v ne = absurd (ne refl)
set-beside (x ∷ xs) zero (suc k) v ne = refl
set-beside (x ∷ xs) (suc i) zero v ne = refl
set-beside (x ∷ xs) (suc i) (suc k) v ne = set-beside xs i k v (λ e. ne (ap suc e))

end-at : {X : Type 0} (xs : List X) (x : X) → slice_get (xs ++ x ∷ []) (length xs) ≡ Some x
end-at [] x = refl
end-at (y ∷ ys) x = end-at ys x

end-beside : {X : Type 0} (xs : List X) (x : X) (k : ℕ) → k ≢ length xs → slice_get (xs ++ x ∷ []) k ≡ slice_get xs k
end-beside [] x zero ne = absurd (ne refl)
end-beside [] x (suc k) ne = refl
end-beside (y ∷ ys) x zero ne = refl
end-beside (y ∷ ys) x (suc k) ne = end-beside ys x k (λ e. ne (ap suc e))

module _ {X Y : Type 0} (f : X → Y) where
  -- what is seen at an index is the item seen
  pub seen-at : (xs : List X) (i : ℕ) (x : X) → i < length xs → x ≡ get_or xs i x → slice_get (map f xs) i ≡ Some (f x)
  seen-at xs i x h e = slice_get-map f xs i ∙ ap (option_map f) (slice_get-get_or xs i x h ∙ ap Some (sym e))

  -- an item that is put at an index is seen there
  pub put-at : (xs : List X) (i : ℕ) (x y : X) → i < length xs → x ≡ get_or xs i x → slice_get (map f (set xs i y)) i ≡ Some (f y)
  put-at xs i x y h e = rw map-set (set-at (map f xs) i (f y) (f x) (seen-at xs i x h e))

  -- and changes nothing beside it
  pub put-beside : (xs : List X) (i k : ℕ) (y : X) → k ≢ i → slice_get (map f (set xs i y)) k ≡ slice_get (map f xs) k
  put-beside xs i k y ne = rw map-set (set-beside (map f xs) i k (f y) ne)

  -- nor anywhere, where it is seen as the one before it
  pub put-same : (xs : List X) (i : ℕ) (x y : X) → x ≡ get_or xs i x → f y ≡ f x → map f (set xs i y) ≡ map f xs
  put-same [] i x y e s = refl
  put-same (z ∷ xs) zero x y e s = ap (λ v. v ∷ map f xs) (s ∙ ap f e)
  put-same (z ∷ xs) (suc i) x y e s = ap (λ l. f z ∷ l) (put-same xs i x y e s)

  -- an item that is added is seen at the end
  pub more-at : (xs : List X) (x : X) → slice_get (map f (xs ++ x ∷ [])) (length xs) ≡ Some (f x)
  more-at xs x = rw (map-append f xs (x ∷ []), ← length-map xs f) (end-at (map f xs) (f x))

  -- and changes nothing before it
  pub more-beside : (xs : List X) (x : X) (k : ℕ) → k ≢ length xs → slice_get (map f (xs ++ x ∷ [])) k ≡ slice_get (map f xs) k
  more-beside xs x k ne = rw map-append (end-beside (map f xs) (f x) k (λ e. ne (e ∙ length-map xs f)))
