-- The lines of a text.
use Rattle.std.proofs.Common.{◌≡◌, ℕ, suc, ◌+◌, ◌<◌, ◌≤◌, List, [], ◌∷◌, ◌++◌, length, take, drop, get_or, Bool, true, false, cond, not}
use Rattle.std.proofs.Common.{nat_eq, Some, None, refl, sym, ap, ◌∙◌, arith, append_assoc, take-append-drop}
use Rattle.std.proofs.Common.{length-take}
use Rattle.std.specs.List.{onto_first, position, position_or_len, All}
use Rattle.std.proofs.lemmas.List.{get_or-take, take_more}
use Rattle.std.proofs.lemmas.List.Quantifiers.{position-Some}
use Rattle.std.proofs.lemmas.List.Splits.{slice_split_at}
use Rattle.std.proofs.lemmas.List.Elements.{All-from_get_or}
use Rattle.std.proofs.lemmas.Bool.Decides.{nat_tests}
use Rattle.stimulus.specs.Reading.{parts}
use Rattle.stimulus.specs.FirstLine.{IsLong}

abbrev pub is_lf : ℕ → Bool
is_lf b = nat_eq b 10

-- there is always a part
pub record IsSome_parts (texts : List (List ℕ)) : Type 0 where
  pub line : List ℕ
  pub others : List (List ℕ)
  pub is : texts ≡ line ∷ others

begun_with : (x : ℕ) (texts : List (List ℕ)) → IsSome_parts texts → IsSome_parts (onto_first x texts)
begun_with x texts some = record { line = x ∷ some.line; others = some.others; is = ap (onto_first x) some.is }

pub some_parts : (xs : List ℕ) → IsSome_parts (parts xs)
some_parts [] = record { line = []; others = []; is = refl }
some_parts (x ∷ xs) = elim (is_lf x) as (λ t. IsSome_parts (cond t ([] ∷ parts xs) (onto_first x (parts xs)))) [
  | true ↦ record { line = []; others = parts xs; is = refl }
  | false ↦ begun_with x (parts xs) (some_parts xs)
]

-- a text in which no LF was found
pub uncut : (xs : List ℕ) → length xs ≤ position_or_len is_lf xs → parts xs ≡ xs ∷ []
uncut [] h = refl
uncut (x ∷ xs) h =
    elim (is_lf x) as (λ t. length (x ∷ xs) ≤ cond (not t) (1 + position_or_len is_lf xs) 0
    → cond t ([] ∷ parts xs) (onto_first x (parts xs)) ≡ (x ∷ xs) ∷ []) [
      | true ↦ λ none. absurd (omega arith)
      | false ↦ λ more. ap (onto_first x) (uncut xs (omega arith))
    ] h

pub record IsLongAs (n : ℕ) (texts : List (List ℕ)) : Type 0 where
  pub line : List ℕ
  pub others : List (List ℕ)
  pub is : texts ≡ line ∷ others
  pub long : n ≤ length line

longer : (x n : ℕ) (texts : List (List ℕ)) → IsLongAs n texts → IsLongAs (suc n) (onto_first x texts)
longer x n texts h =
    record { line = x ∷ h.line; others = h.others; is = ap (onto_first x) h.is; long = let l : n ≤ length h.line = h.long in omega arith }

pub uncut_long : (xs ys : List ℕ) → length xs ≤ position_or_len is_lf xs → IsLongAs (length xs) (parts (xs ++ ys))
uncut_long [] ys h = let some = some_parts ys in record { line = some.line; others = some.others; is = some.is; long = omega arith }
uncut_long (x ∷ xs) ys h =
    elim (is_lf x) as (λ t. length (x ∷ xs) ≤ cond (not t) (1 + position_or_len is_lf xs) 0
    → IsLongAs (suc (length xs)) (cond t ([] ∷ parts (xs ++ ys)) (onto_first x (parts (xs ++ ys))))) [
      | true ↦ λ none. absurd (omega arith)
      | false ↦ λ more. longer x (length xs) (parts (xs ++ ys)) (uncut_long xs ys (omega arith))
    ] h

pub none_found : (xs : List ℕ) → position is_lf xs ≡ None → length xs ≤ position_or_len is_lf xs
none_found xs e = grind (arith, nat_tests)

pub no_line : (bytes : List ℕ) → length bytes ≤ 128 → position is_lf bytes ≡ None → (length bytes ≤ 128) × (parts bytes ≡ bytes ∷ [])
no_line bytes short e = (short, uncut bytes (none_found bytes e))

pub long_line : (n : ℕ) (bytes : List ℕ) → 128 < n → n ≤ length bytes → position is_lf (take n bytes) ≡ None → (tail : List ℕ)
    → IsLong (parts (bytes ++ tail))
long_line n bytes large within e tail =
    let shown : List ℕ = take n bytes in
    let h : IsLongAs (length shown) (parts (shown ++ (drop n bytes ++ tail))) =
    uncut_long shown (drop n bytes ++ tail) (none_found shown e) in
    let whole : shown ++ (drop n bytes ++ tail) ≡ bytes ++ tail = sym (append_assoc shown (drop n bytes) tail)
    ∙ ap (λ l. l ++ tail) (take-append-drop n bytes) in
    let long : length shown ≤ length h.line = h.long in
    record { line = h.line; others = h.others; is = ap parts (sym whole) ∙ h.is; long = omega (arith, length-take n bytes) }

-- the first LF cuts off a line, whatever follows
pub cut : (n : ℕ) (bytes : List ℕ) (end : ℕ) → n ≤ 129 → position is_lf (take n bytes) ≡ Some end
    → (end < length bytes) × (end ≤ 128) × ((tail : List ℕ) → parts (take (end + 1) bytes ++ tail) ≡ take end bytes ∷ parts tail)
cut n bytes end few e =
    let found = position-Some is_lf (take n bytes) end 0 e in
    let in_shown : end < length (take n bytes) = found.0 in
    let within : end < length bytes = omega (arith, length-take n bytes) in
    let below : end < n = omega (arith, length-take n bytes) in
    let at : is_lf (get_or bytes end 0) ≡ true = ap is_lf (sym (get_or-take n bytes end 0 below)) ∙ found.1 in
    let others : (k : ℕ) → k < length (take end bytes) → is_lf (get_or (take end bytes) k 0) ≡ false =
    λ k less. let lower : k < end = omega (arith, length-take end bytes) in
    ap is_lf (get_or-take end bytes k 0 lower ∙ sym (get_or-take n bytes k 0 (omega arith))) ∙ found.2 k lower in
    let front : All (λ b. is_lf b ≡ false) (take end bytes) = All-from_get_or (λ b. is_lf b ≡ false) (take end bytes) 0 others in (
      within,
      omega arith,
      λ tail.
          let whole : take (end + 1) bytes ++ tail ≡ take end bytes ++ (get_or bytes end 0 ∷ tail) =
          ap (λ l. l ++ tail) (take_more bytes end 0 within) ∙ append_assoc (take end bytes) (get_or bytes end 0 ∷ []) tail in
          ap parts whole ∙ slice_split_at is_lf (take end bytes) (get_or bytes end 0) tail front at,
    )
