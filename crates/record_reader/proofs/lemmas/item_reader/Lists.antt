-- Parts of lists: what a window holds after its buffer was written to, and equal fronts.
use Rattle.std.proofs.Common.{◌≡◌, ◌≢◌, ℕ, suc, ◌+◌, ◌-◌, ◌<◌, ◌≤◌, ◌⊎◌, inl, inr, List, [], ◌∷◌, ◌++◌, length, take, drop, get_or, min}
use Rattle.std.proofs.Common.{sym, ap, ◌∙◌, arith, length-drop}
use Rattle.std.proofs.lemmas.List.{drop_at, drop-drop, drop-take, drop-append-le, take-append-le, length-take-le, take-append-drop}
use Rattle.std.proofs.lemmas.List.{take-take, drop_all, drop_more}
use Rattle.std.proofs.lemmas.Bool.{cases_lt}
use Rattle.std.proofs.lemmas.List.Edits.{take-paste}
use Rattle.std.proofs.lemmas.List.Elements.{All-drop}
use lib.Seq.{paste}
use Rattle.record_grammar.specs.Spelling.{AreBytes}
use Rattle.record_reader.specs.item_reader.Held.{Matched}

pub take_past : (p q : List ℕ) (m : ℕ) → take (length p + m) (p ++ q) ≡ p ++ take m q
take_past [] q m = let e : 0 + m ≡ m = omega arith in ap (λ (k : ℕ). take k q) e
take_past (x ∷ p) q m =
    let e : length (x ∷ p) + m ≡ suc (length p + m) = omega arith in
    ap (λ (k : ℕ). take k (x ∷ (p ++ q))) e ∙ ap (λ (ys : List ℕ). x ∷ ys) (take_past p q m)

pub take-add : (n m : ℕ) (xs : List ℕ) → n ≤ length xs → take (n + m) xs ≡ take n xs ++ take m (drop n xs)
take-add n m xs le =
    let e : length (take n xs) + m ≡ n + m = omega (arith, length-take-le n xs le) in
    ap (λ (k : ℕ). take k xs) (sym e) ∙ ap (take (length (take n xs) + m)) (sym (take-append-drop n xs))
    ∙ take_past (take n xs) (drop n xs) m

pub length-held : (from to : ℕ) (xs : List ℕ) → to ≤ length xs → length (drop from (take to xs)) ≡ to - from
length-held from to xs within = length-drop from (take to xs) ∙ ap (λ (k : ℕ). k - from) (length-take-le to xs within)

-- bytes were written right before what is held
pub wrote_front : (at from to : ℕ) (xs bytes : List ℕ) → at + length bytes ≡ from → from ≤ to → to ≤ length xs
    → drop at (take to (take at xs ++ (bytes ++ drop from xs))) ≡ bytes ++ drop from (take to xs)
wrote_front at from to xs bytes e order within =
    let all : List ℕ = take at xs ++ (bytes ++ drop from xs) in
    let m : ℕ = length bytes + (to - from) in
    let t : at + m ≡ to = omega arith in
    let l : length (take at xs) ≡ at = length-take-le at xs (omega arith) in
    let f : from + (to - from) ≡ to = omega arith in
    ap (λ (k : ℕ). drop at (take k all)) (sym t) ∙ drop-take at m all ∙ ap (take m) (drop_at (take at xs) (bytes ++ drop from xs) at l)
    ∙ take_past bytes (drop from xs) (to - from)
    ∙ ap (λ (ys : List ℕ). bytes ++ ys) (sym (drop-take from (to - from) xs) ∙ ap (λ (k : ℕ). drop from (take k xs)) f)

-- a piece was read after the held bytes
pub read_behind : (from to n : ℕ) (xs piece rest : List ℕ) → from ≤ to → to ≤ length xs → n ≤ length piece
    → drop from (take (to + n) (take to xs ++ (piece ++ rest))) ≡ drop from (take to xs) ++ take n piece
read_behind from to n xs piece rest order within fits =
    let l : length (take to xs) ≡ to = length-take-le to xs within in
    let k : length (take to xs) + n ≡ to + n = omega arith in
    ap (λ (m : ℕ). drop from (take m (take to xs ++ (piece ++ rest)))) (sym k)
    ∙ ap (drop from) (take_past (take to xs) (piece ++ rest) n ∙ ap (λ (ys : List ℕ). take to xs ++ ys) (take-append-le n piece rest fits))
    ∙ drop-append-le from (take to xs) (take n piece) (omega arith)

-- what is held was moved to another place
pub moved : (from to at : ℕ) (xs : List ℕ) → from ≤ to → to ≤ length xs → at ≤ length xs
    → drop at (take (at + (to - from)) (paste xs at (drop from xs) (to - from))) ≡ drop from (take to xs)
moved from to at xs order within fits =
    let n : ℕ = to - from in
    let f : from + n ≡ to = omega arith in
    ap (drop at) (take-paste xs at (drop from xs) n fits (omega (arith, length-drop from xs)))
    ∙ drop_at (take at xs) (take n (drop from xs)) at (length-take-le at xs fits) ∙ sym (drop-take from n xs)
    ∙ ap (λ (k : ℕ). drop from (take k xs)) f

-- the first byte differs
pub differs_at : (i : ℕ) (xs ys : List ℕ) → i < length xs → i < length ys → get_or xs i 0 ≢ get_or ys i 0
    → take 1 (drop i xs) ≢ take 1 (drop i ys)
differs_at i xs ys lx ly ne e =
    ne (head (get_or xs i 0) (get_or ys i 0) (sym (ap (take 1) (drop_more xs i 0 lx)) ∙ e ∙ ap (take 1) (drop_more ys i 0 ly)))
  where
    head : (x y : ℕ) → (x ∷ []) ≡ (y ∷ []) → x ≡ y
    head x y e = cc

-- blocks that are equal after equal fronts
pub same_more : (n m : ℕ) (xs ys : List ℕ) → n ≤ length xs → n ≤ length ys → take n xs ≡ take n ys → take m (drop n xs) ≡ take m (drop n ys)
    → take (n + m) xs ≡ take (n + m) ys
same_more n m xs ys lx ly front more =
    take-add n m xs lx ∙ ap (λ (zs : List ℕ). zs ++ take m (drop n xs)) front ∙ ap (λ (zs : List ℕ). take n ys ++ zs) more
    ∙ sym (take-add n m ys ly)

-- the first of some bytes, where there is one
first_of_front : (e most : ℕ) (xs : List ℕ) → e < most → take 1 (drop e (take most xs)) ≡ take 1 (drop e xs)
first_of_front e most xs lt =
    let f : e + (most - e) ≡ most = omega arith in
    ap (λ (k : ℕ). take 1 (drop e (take k xs))) (sym f) ∙ ap (take 1) (drop-take e (most - e) xs)
    ∙ take-take 1 (most - e) (drop e xs) (omega arith)

-- what is held was passed as far as it is equal
pub is_matched : (held bytes : List ℕ) (from most n : ℕ) → AreBytes held → from ≤ length bytes
    → most ≡ min (length held) (length bytes - from) → n ≤ most
    → take n (take most held) ≡ take n (take most (drop from bytes))
    → (n ≡ most) ⊎ (take 1 (drop n (take most held)) ≢ take 1 (drop n (take most (drop from bytes))))
    → Matched bytes from (from + n) held (drop n held)
is_matched held bytes from most n are in_bytes most_is fits same ends = record {
  order = omega arith;
  within = omega arith;
  is =
      sym (take-append-drop n held) ∙ ap (λ (xs : List ℕ). xs ++ drop n held) (sym (take-take n most held fits) ∙ same
      ∙ take-take n most (drop from bytes) fits ∙ ap (λ (k : ℕ). take k (drop from bytes)) back);
  ends = end ends;
  are = All-drop (λ b. b < 256) n held are;
}
  where
    back : n ≡ from + n - from
    back = omega arith

    shorter : n ≡ most → (length bytes - from < length held) ⊎ (length held ≤ length bytes - from)
        → (from + n ≡ length bytes) ⊎ ((drop n held ≡ []) ⊎ (take 1 (drop n held) ≢ take 1 (drop (from + n) bytes)))
    shorter e (inl lt) = inl (omega arith)
    shorter e (inr le) = inr (inl (drop_all n held (omega arith)))

    whole : n ≡ most → (from + n ≡ length bytes) ⊎ ((drop n held ≡ []) ⊎ (take 1 (drop n held) ≢ take 1 (drop (from + n) bytes)))
    whole e = shorter e (cases_lt (length bytes - from) (length held))

    unlike : take 1 (drop n (take most held)) ≢ take 1 (drop n (take most (drop from bytes))) → (n < most) ⊎ (most ≤ n)
        → (from + n ≡ length bytes) ⊎ ((drop n held ≡ []) ⊎ (take 1 (drop n held) ≢ take 1 (drop (from + n) bytes)))
    unlike ne (inl lt) =
        inr (inr (λ e. ne (first_of_front n most held lt ∙ e ∙ ap (take 1) (sym (drop-drop n from bytes))
        ∙ sym (first_of_front n most (drop from bytes) lt))))
    unlike ne (inr le) = whole (omega arith)

    end : (n ≡ most) ⊎ (take 1 (drop n (take most held)) ≢ take 1 (drop n (take most (drop from bytes))))
        → (from + n ≡ length bytes) ⊎ ((drop n held ≡ []) ⊎ (take 1 (drop n held) ≢ take 1 (drop (from + n) bytes)))
    end (inl e) = whole e
    end (inr ne) = unlike ne (cases_lt n most)
