-- Copies of a record in slots that were opened, one for each name.
use Rattle.std.proofs.Common.{◌≡◌, ◌≢◌, ℕ, zero, suc, ◌+◌, ◌<◌, List, [], ◌∷◌, length, map, Option, Some, Bor, arith, refl, sym, ap, ◌∙◌}
use Rattle.std.proofs.Common.{subst}
use Rattle.std.specs.Prelude.{IfSome, IsSome}
use Rattle.std.specs.List.{AllByRecursion, AllPairs, AllZip, range_with_len}
use Rattle.std.proofs.lemmas.List.Elements.{All-tail, recursion_from_All}
use Rattle.std.proofs.lemmas.List.{length-map}
use Rattle.det_io.specs.Shelf.{ShelfState}
use Rattle.cmd_records.specs.open_names.OpenedSlots.{Opened}
use Rattle.cli_answers.specs.Outcome.{KnowsBytes, known_bytes}
use Rattle.cli_answers.proofs.KnownBytes.{held}
use Rattle.cli_answers.specs.Slots.{KeepsSlots}
use Rattle.copies.specs.CompareCopies.{AreDifferent, AreGiven, AreLeft, ReadsAmong}

-- no slot comes twice where any two differ
different-of : (slots : List ℕ) → AllPairs (λ slot other. slot ≢ other) slots → AreDifferent slots
different-of [] apart = tt
different-of (slot ∷ slots) apart = (
  recursion_from_All (λ other. slot ≢ other) slots (λ k d within. apart zero (suc k) d (omega arith) (omega (arith, within))),
  different-of slots (λ i j d less within. apart (suc i) (suc j) d (omega (arith, less)) (omega (arith, within))),
)

told-at : (holds : Option (List ℕ)) (bytes : List ℕ) (P : List ℕ → Type 0) → holds ≡ Some bytes → IfSome holds P → P bytes
told-at holds bytes P e p = rw e at p

-- each slot has left what its name held, if that is known
left-of : (first mid : ShelfState) (names : List (List ℕ)) (slots : List ℕ) → KnowsBytes first names
    → AllZip (λ name slot. IfSome (first.holds name) (λ bytes. mid.left slot ≡ Some bytes)) names slots
    → AreLeft mid slots (map (known_bytes first) names)
left-of first mid [] [] is_known left = tt
left-of first mid [] (slot ∷ slots) is_known left = absurd left
left-of first mid (name ∷ names) [] is_known left = absurd left
left-of first mid (name ∷ names) (slot ∷ slots) is_known left = (
  told-at (first.holds name) (known_bytes first name) (λ bytes. mid.left slot ≡ Some bytes) (held (first.holds name) (is_known 0 name (omega
      arith)))
      left.0,
  left-of first mid names slots (All-tail (λ other. IsSome (first.holds other)) name names is_known) left.1,
)

-- two lists that are paired are as long
as-long : {A B : Type 0} (R : A → B → Type 0) (xs : List A) (ys : List B) → AllZip R xs ys → length ys ≡ length xs
as-long R [] [] zip = refl
as-long R [] (y ∷ ys) zip = absurd zip
as-long R (x ∷ xs) [] zip = absurd zip
as-long R (x ∷ xs) (y ∷ ys) zip = ap suc (as-long R xs ys zip.1)

-- a number before those in a row is none of them
before-row : (k a n : ℕ) → k < a → AllByRecursion (λ slot. k ≢ slot) (range_with_len a n)
before-row k a zero less = tt
before-row k a (suc n) less = ((λ e. omega (arith, e, less)), before-row k (a + 1) n (omega (arith, less)))

abbrev pub texts : List (Bor (List ℕ)) → List (List ℕ)
texts recorded = map (λ name. name.now) recorded

module _ {first mid : ShelfState} {slots here : List ℕ} (recorded : List (Bor (List ℕ))) (same : here ≡ slots)
    (opened : Opened first mid (texts recorded) slots) where
  opened-here : Opened first mid (texts recorded) here
  opened-here = subst (Opened first mid (texts recorded)) (sym same) opened

  -- there are as many slots as names
  pub as-many : length here ≡ length recorded
  as-many =
      as-long (λ name slot. IfSome (first.holds name) (λ bytes. mid.left slot ≡ Some bytes)) (texts recorded) here opened-here.left
      ∙ length-map recorded (λ name. name.now)

  pub are-given : AreGiven mid here
  are-given = recursion_from_All (λ slot. slot < mid.slots) here opened-here.given

  pub are-different : AreDifferent here
  are-different = different-of here opened-here.apart

  -- what the slots have left is what the names held
  pub are-left : KnowsBytes first (texts recorded) → AreLeft mid here (map (known_bytes first) (texts recorded))
  are-left is_known = left-of first mid (texts recorded) here is_known opened-here.left

  -- reads of the slots keep what was given before them
  pub keeps-copies : {last : ShelfState} → KeepsSlots first mid → ReadsAmong mid last here → KeepsSlots first last
  keeps-copies earlier reads k less =
      reads.others k (subst (AllByRecursion (λ slot. k ≢ slot)) (sym (same ∙ opened.numbered))
      (before-row k first.slots (length (texts recorded)) less)) ∙ earlier k less
