-- What a read does to slots over records that lie in memory.
use Rattle.std.proofs.Common.{◌≡◌, ◌≢◌, ◌<◌, ℕ, zero, suc, List, [], ◌∷◌, ◌++◌, length, take, drop, set, map, get_or, refl, sym, ◌∙◌}
use Rattle.std.proofs.Common.{ap, arith}
use Rattle.std.specs.Prelude.{Some, IfSome, min}
use Rattle.std.specs.Borrow.{Bor}
use Rattle.std.specs.List.{slice_get}
use Rattle.std.specs.Option.{option_map}
use Rattle.std.proofs.lemmas.List.{take-append-drop, map-set, length-map, length-set, length-drop}
use Rattle.std.proofs.lemmas.Option.{slice_get-get_or, slice_get-map}
use Rattle.det_io.specs.Shelf.{Reads}
use Rattle.page.specs.Shelves.{lent_state}

slice_get-set-same : {X : Type 0} (xs : List X) (i : ℕ) (v w : X) → slice_get xs i ≡ Some w → slice_get (set xs i v) i ≡ Some v
slice_get-set-same [] i v w h = cc
slice_get-set-same (x ∷ xs) zero v w h = refl
slice_get-set-same (x ∷ xs) (suc i) v w h = slice_get-set-same xs i v w h

slice_get-set-other : {X : Type 0} (xs : List X) (i k : ℕ) (v : X) → k ≢ i → slice_get (set xs i v) k ≡ slice_get xs k
slice_get-set-other [] i k v ne = refl
slice_get-set-other (x ∷ xs) zero zero v ne = absurd (ne refl)
slice_get-set-other (x ∷ xs) zero (suc k) v ne = refl
slice_get-set-other (x ∷ xs) (suc i) zero v ne = refl
slice_get-set-other (x ∷ xs) (suc i) (suc k) v ne = slice_get-set-other xs i k v (λ e. ne (ap suc e))

length-none : (xs : List ℕ) → length xs ≡ 0 → xs ≡ []
length-none [] h = refl
length-none (x ∷ xs) h = absurd (omega arith)

texts : List (Bor (List ℕ)) → List (List ℕ)
texts rests = map (λ rest. rest.now) rests

module _ (rests : List (Bor (List ℕ))) (slot n : ℕ) (rest next : Bor (List ℕ)) (within : slot < length (map (λ r. r.now) rests))
    (is : rest ≡ get_or rests slot rest) (behind : next.now ≡ drop n rest.now) where
  found : slice_get (map (λ r. r.now) rests) slot ≡ Some rest.now
  found = slice_get-map (λ r. r.now) rests slot
      ∙ ap (option_map (λ r. r.now))
      (slice_get-get_or rests slot rest (let l = length-map rests (λ (r : Bor (List ℕ)). r.now) in omega (arith, within, l))
      ∙ ap Some (sym is))

  moved : slice_get (map (λ r. r.now) (set rests slot next)) slot ≡ Some (drop n rest.now)
  moved = rw map-set (slice_get-set-same (map (λ r. r.now) rests) slot next.now rest.now found ∙ ap Some behind)

  pub lent-reads : (front : List ℕ) → front ≡ take n rest.now
      → Reads (lent_state (map (λ r. r.now) rests)) (lent_state (map (λ r. r.now) (set rests slot next))) slot front
  lent-reads front f = record {
    slots = rw map-set (length-set (map (λ r. r.now) rests) slot next.now);
    holds = refl;
    asked = refl;
    left = found ∙ ap Some (rw f (sym (take-append-drop n rest.now))) ∙ sym (ap (option_map (λ left. front ++ left)) moved);
    others = λ k ne. rw map-set (slice_get-set-other (map (λ r. r.now) rests) slot k next.now ne);
  }

  pub lent-ends : (room : ℕ) → n ≡ min room (length rest.now) → n ≡ 0 → 0 < room
      → IfSome (slice_get (map (λ r. r.now) (set rests slot next)) slot) (λ left. left ≡ [])
  lent-ends room c z r =
      rw moved (length-none (drop n rest.now) (simp length-drop (omega (arith, c, z, r))))
