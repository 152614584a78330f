-- A table that is filled row by row.
use Rattle.std.proofs.Common.{◌≡◌, ◌+◌, ℕ, zero, suc, List, [], ◌∷◌, ◌++◌, length, take, drop, set, refl, sym, ap, ◌∙◌, arith}
use Rattle.std.proofs.Common.{append-nil, length-append, append_assoc}
use Rattle.std.specs.Prelude.{min}
use Rattle.std.proofs.lemmas.List.{take-append-drop}
use Rattle.page.specs.Rows.{overlay}

overlay_next : {X : Type 0} (xs old : List X) (x : X) → set (overlay xs old) (length xs) x ≡ overlay (xs ++ x ∷ []) old
overlay_next [] [] x = refl
overlay_next [] (o ∷ old) x = refl
overlay_next (y ∷ xs) [] x = refl
overlay_next (y ∷ xs) (o ∷ old) x = ap (λ more. y ∷ more) (overlay_next xs old x)

-- of all rows some were put, and the rest are still to come
pub record Fill {X : Type 0} (all rest rows old : List X) (count : ℕ) : Type 0 where
  pub done : List X
  pub are : all ≡ done ++ rest
  pub lie : rows ≡ overlay done old
  pub counted : count ≡ length done

pub fill_first : {X : Type 0} (all rest old : List X) → all ≡ rest → Fill all rest old old 0
fill_first all rest old e = record { done = []; are = e; lie = refl; counted = refl }

pub fill_next : {X : Type 0} {all rest rows old : List X} {count : ℕ} (x : X) (more : List X) (next : ℕ)
    → Fill all rest rows old count → rest ≡ x ∷ more → next ≡ count + 1 → Fill all more (set rows count x) old next
fill_next {old = old} {count = count} x more next h e n = record {
  done = h.done ++ x ∷ [];
  are = h.are ∙ ap (λ xs. h.done ++ xs) e ∙ sym (append_assoc h.done (x ∷ []) more);
  lie = ap (λ xs. set xs count x) h.lie ∙ ap (λ k. set (overlay h.done old) k x) h.counted ∙ overlay_next h.done old x;
  counted = n ∙ ap (λ k. k + 1) h.counted ∙ sym (length-append h.done (x ∷ []));
}

pub fill_last : {X : Type 0} {all rest rows old : List X} {count : ℕ} → Fill all rest rows old count → rest ≡ []
    → (rows ≡ overlay all old) × (count ≡ length all)
fill_last {old = old} h e =
    let all = sym (h.are ∙ ap (λ xs. h.done ++ xs) e ∙ append-nil h.done) in
    (h.lie ∙ ap (λ xs. overlay xs old) all, h.counted ∙ ap length all)

overlay_parts : {X : Type 0} (n : ℕ) (xs old : List X) → n ≡ min (length old) (length xs) → overlay xs old ≡ take n xs ++ drop n old
overlay_parts zero [] old h = refl
overlay_parts zero (x ∷ xs) [] h = refl
overlay_parts zero (x ∷ xs) (y ∷ old) h = absurd (omega (arith, h))
overlay_parts (suc n) [] old h = absurd (omega (arith, h))
overlay_parts (suc n) (x ∷ xs) [] h = absurd (omega (arith, h))
overlay_parts (suc n) (x ∷ xs) (y ∷ old) h = ap (λ more. x ∷ more) (overlay_parts n xs old (omega (arith, h)))

-- as many as fit were copied over the front
pub overlay_front : {X : Type 0} (n : ℕ) (xs old new : List X) → n ≡ min (length old) (length xs) → take n new ≡ take n xs
    → drop n new ≡ drop n old → new ≡ overlay xs old
overlay_front n xs old new h front rest =
    sym (take-append-drop n new) ∙ ap (λ ys. ys ++ drop n new) front ∙ ap (λ ys. take n xs ++ ys) rest ∙ sym (overlay_parts n xs old h)

-- a row more was put
pub fill_put : {X : Type 0} {all rest rows old : List X} {count : ℕ} (x y : X) (more after : List X) (next : ℕ)
    → Fill all rest rows old count → rest ≡ x ∷ more → y ≡ x → after ≡ set rows count y → next ≡ count + 1
    → Fill all more after old next
fill_put {rows = rows} {count = count} x y more after next h e same put n =
    let l = fill_next x more next h e n in
    record { done = l.done; are = l.are; lie = put ∙ ap (λ v. set rows count v) same ∙ l.lie; counted = l.counted }
