-- A name more that is opened.
use Rattle.std.proofs.Common.{◌≡◌, ◌≢◌, ℕ, zero, suc, ◌+◌, ◌<◌, List, [], ◌∷◌, ◌++◌, length, Option, Some, None}
use Rattle.std.proofs.Common.{refl, sym, ap, subst, ◌∙◌, arith, map, take, drop, Bor, Bool, true, cond, add-zero, length-append}
use Rattle.std.specs.Prelude.{IfSome}
use Rattle.std.specs.List.{All, AllPairs, AllZip, slice_index_or, range_with_len}
use Rattle.std.proofs.lemmas.List.Elements.{All-nil, All-cons, All-tail, All-append}
use Rattle.std.proofs.lemmas.List.Kept.{AllPairs-cons}
use Rattle.std.proofs.lemmas.List.{take_more, map-append, take-append-drop, length-map, length-take-le}
use Rattle.det_io.specs.Prefix.{IsPrefix}
use Rattle.det_io.specs.Shelf.{ShelfState, Opens, Asks, AsksPrefix}
use Rattle.det_io.proofs.Opening.{opens-other, opens-apart, asks-then}
use Rattle.cmd_records.specs.open_names.OpenedSlots.{Opened}

-- what is left of slots that are given
abbrev Left : (before after : ShelfState) → List ℕ → ℕ → Type 0
Left before after name slot = IfSome (before.holds name) (λ bytes. after.left slot ≡ Some bytes)

pub opened-none : (state : ShelfState) → Opened state state [] []
opened-none state = record {
  numbered = refl;
  count = sym (add-zero state.slots);
  given = λ k d h. absurd (omega (arith, h));
  apart = λ i j d less h. absurd (omega (arith, h));
  left = tt;
}

if-same : (told : Option (List ℕ)) (one other : Option (List ℕ)) → other ≡ one → IfSome told (λ bytes. one ≡ Some bytes)
    → IfSome told (λ bytes. other ≡ Some bytes)
if-same (Some bytes) one other same h = same ∙ h
if-same None one other same h = tt

-- one number more
range-more : (a n : ℕ) → range_with_len a (suc n) ≡ range_with_len a n ++ (a + n) ∷ []
range-more a zero = ap (λ k. k ∷ []) (sym (add-zero a))
range-more a (suc n) =
    let next : (a + 1) + n ≡ a + suc n = omega arith in
    ap (λ ks. a ∷ ks) (range-more (a + 1) n ∙ ap (λ k. range_with_len (a + 1) n ++ k ∷ []) next)

module _ (first mid last : ShelfState) (name : List ℕ) (slot : ℕ) (holds : mid.holds ≡ first.holds) (opens : Opens mid last name slot) where
  left-next : (names : List (List ℕ)) (slots : List ℕ) → All (λ s. s < mid.slots) slots → AllZip (Left first mid) names slots
      → AllZip (Left first last) (names ++ name ∷ []) (slots ++ slot ∷ [])
  left-next [] [] given left =
      (subst (λ (h : List ℕ → Option (List ℕ)). IfSome (h name) (λ bytes. last.left slot ≡ Some bytes)) holds opens.left, tt)
  left-next [] (s ∷ slots) given left = absurd left
  left-next (n ∷ names) [] given left = absurd left
  left-next (n ∷ names) (s ∷ slots) given left = (
    if-same (first.holds n) (mid.left s) (last.left s) (opens-other s opens (given 0 s (omega arith))) left.0,
    left-next names slots (All-tail (λ other. other < mid.slots) s slots given) left.1,
  )

  given-next : (slots : List ℕ) → All (λ s. s < mid.slots) slots → All (λ s. s < last.slots) (slots ++ slot ∷ [])
  given-next slots given = All-append (λ s. s < last.slots) slots (slot ∷ [])
      (λ k d h. let g = given k d h in let n = opens.slots in omega (arith, g, n))
      (All-cons (λ s. s < last.slots) slot [] (let n = opens.slots in let m = opens.number in omega (arith, n, m))
      (All-nil (λ s. s < last.slots)))

  apart-next : (slots : List ℕ) → All (λ s. s < mid.slots) slots → AllPairs (λ s other. s ≢ other) slots
      → AllPairs (λ s other. s ≢ other) (slots ++ slot ∷ [])
  apart-next [] given apart = AllPairs-cons (λ s other. s ≢ other) slot [] (All-nil (λ s. slot ≢ s)) apart
  apart-next (s ∷ slots) given apart = AllPairs-cons (λ s other. s ≢ other) s (slots ++ slot ∷ [])
      (All-append (λ other. s ≢ other) slots (slot ∷ []) (λ k d h. apart zero (suc k) d (omega arith) (omega (arith, h)))
      (All-cons (λ other. s ≢ other) slot [] (opens-apart s opens (given 0 s (omega arith))) (All-nil (λ other. s ≢ other))))
      (apart-next slots (All-tail (λ other. other < mid.slots) s slots given)
      (λ i j d less h. apart (suc i) (suc j) d (omega (arith, less)) (omega (arith, h))))

  numbered-next : (names : List (List ℕ)) (slots : List ℕ) → slots ≡ range_with_len first.slots (length names)
      → mid.slots ≡ first.slots + length names
      → slots ++ slot ∷ [] ≡ range_with_len first.slots (length (names ++ name ∷ []))
  numbered-next names slots numbered count =
      let all = length-append names (name ∷ []) in
      let longer : suc (length names) ≡ length (names ++ name ∷ []) = omega (arith, all) in
      ap (λ ks. ks ++ slot ∷ []) numbered
      ∙ ap (λ k. range_with_len first.slots (length names) ++ k ∷ []) (opens.number ∙ count)
      ∙ sym (range-more first.slots (length names))
      ∙ ap (range_with_len first.slots) longer

  -- a name more was opened
  pub opened-next : (names : List (List ℕ)) (slots : List ℕ) → Opened first mid names slots
      → Opened first last (names ++ name ∷ []) (slots ++ slot ∷ [])
  opened-next names slots h = record {
    numbered = numbered-next names slots h.numbered h.count;
    count = let n = opens.slots in let m = h.count in let all = length-append names (name ∷ []) in omega (arith, n, m, all);
    given = given-next slots h.given;
    apart = apart-next slots h.given h.apart;
    left = left-next names slots h.given h.left;
  }

-- a slot that was pushed
pub pushed : (old new : List ℕ) (slot : ℕ) (b : Bool) → new ≡ cond b (old ++ slot ∷ []) old → b ≡ true → new ≡ old ++ slot ∷ []
pushed old new slot b is ok = is ∙ ap (λ (x : Bool). cond x (old ++ slot ∷ []) old) ok

-- ---- the names that were asked for

abbrev texts : List (Bor (List ℕ)) → List (List ℕ)
texts names = map (λ name. name.now) names

-- there are fewer of the first ones
pub texts-fewer : (names : List (Bor (List ℕ))) (i : ℕ) → i < length names → length (texts (take i names)) < length names
texts-fewer names i within =
    let many = length-map (take i names) (λ name. name.now) in
    let front = length-take-le i names (omega (arith, within)) in
    omega (arith, many, front, within)

module _ (names : List (Bor (List ℕ))) (i : ℕ) (d : Bor (List ℕ)) (within : i < length names) where
  pub texts-next : texts (take (i + 1) names) ≡ texts (take i names) ++ (slice_index_or names i d).now ∷ []
  texts-next = ap texts (take_more names i d within) ∙ map-append (λ name. name.now) (take i names) (slice_index_or names i d ∷ [])

  texts-first : IsPrefix (texts (take (i + 1) names)) (texts names)
  texts-first = (
    texts (drop (i + 1) names),
    sym (map-append (λ name. name.now) (take (i + 1) names) (drop (i + 1) names))
        ∙ ap texts (take-append-drop (i + 1) names),
  )

  pub asks-next : {first mid last : ShelfState} → Asks first mid (texts (take i names))
      → Asks mid last ((slice_index_or names i d).now ∷ []) → Asks first last (texts (take (i + 1) names))
  asks-next {first = first} {last = last} p q = subst (Asks first last) (sym texts-next) (asks-then p q)

  pub asks-first : {first mid last : ShelfState} → Asks first mid (texts (take i names))
      → Asks mid last ((slice_index_or names i d).now ∷ []) → AsksPrefix first last (texts names)
  asks-first p q = (texts (take (i + 1) names), texts-first, asks-next p q)
