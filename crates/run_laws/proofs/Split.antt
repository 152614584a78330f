-- Where a vote finds no majority there is none, and what it writes is the most that is common to most copies.
use Rattle.std.proofs.Common.{◌≡◌, ◌+◌, ◌<◌, ℕ, Bool, true, false, List, [], ◌∷◌, ◌++◌, map, drop, length, Option, Some, None}
use Rattle.std.proofs.Common.{refl, sym, ap, subst, ◌∙◌, append_assoc, append-nil, arith}
use Rattle.std.specs.Prelude.{nat_eq}
use Rattle.std.specs.List.{count_by, flat_map, starts_with, AllByRecursion}
use Rattle.std.proofs.lemmas.Bool.Decides.{Decides-eqb}
use Rattle.std.proofs.lemmas.List.{drop_at}
use Rattle.std.proofs.lemmas.Slice.Eq.{starts_is}
use Rattle.det_io.specs.Prefix.{IsPrefix}
use Rattle.det_values.specs.declared.frames.Frame.{Frame}
use Rattle.record_grammar.specs.declared.place.Place.{Place}
use Rattle.record_grammar.specs.declared.place.Place.TheVariants as places
use Rattle.record_grammar.specs.declared.item.Item.{Item}
use Rattle.record_grammar.specs.declared.item.Item.TheVariants as items
use Rattle.record_grammar.specs.Places.{after, layout_of}
use Rattle.record_grammar.specs.Record.{items as items_in}
use Rattle.record_grammar.specs.Spelling.{AreBytes, spelled}
use Rattle.record_grammar.specs.Laws.{AreItems, items_of, items_spelling}
use Rattle.record_grammar.proofs.Leads.{all_at_more}
use Rattle.record_grammar.proofs.lemmas.record_laws.AfterHeader.{all_frames}
use Rattle.record_grammar.proofs.lemmas.record_laws.Order.{in_order}
use Rattle.record_grammar.proofs.lemmas.record_laws.Whole.{nil_more, all_leads_on, decoded_is}
use Rattle.cmd_records.specs.voter.Majority.{majority, are_held, common, spelled_items}
use Rattle.record_reader.specs.InItems.{frame_in}
use Rattle.cmd_records.proofs.lemmas.voter.Counting.{most-true, most-is, count-cons}
use Rattle.cmd_records.proofs.lemmas.voter.Prefixes.{begins_with, begins-is_known}
use Rattle.cmd_records.proofs.lemmas.voter.Held.{common-from, common-is}
use Rattle.cmd_records.proofs.lemmas.voter.Spelled.{spelled-prefix}
use Rattle.cli_answers.specs.declared.answer.Answer.TheVariants.{NoMajority}
use Rattle.cli_answers.specs.Outcome.{Outcome}
use Rattle.cmd_records.specs.vote_command.Vote.{voted_by, vote_outcome}
use Rattle.run_laws.specs.Votes.{IsMajority, beginning_with, AreCommon, SplitIsCommon}
use Rattle.run_laws.proofs.Voted.{fewer, one-passes, majority_is_written}

-- ---- the first items of a record

first_items : (xs more : List Item) (place to : Place) → AreItems place (xs ++ more) to → (mid : Place) × AreItems place xs mid
first_items [] more place to h = (place, refl)
first_items (x ∷ xs) more place to h =
    let rest = first_items xs more (after place x) to h.1 in
    (rest.0, (h.0, rest.1))

frames_spelled : (fs : List Frame) → flat_map frame_in (map items.Frame fs) ≡ fs
frames_spelled [] = refl
frames_spelled (f ∷ fs) = ap (λ (gs : List Frame). f ∷ gs) (frames_spelled fs)

-- how they are spelled
spelled_is : (xs : List Item) (to : Place) → AreItems places.Header xs to → spelled_items xs ≡ items_spelling places.Header xs
spelled_is [] to h = refl
spelled_is (items.Frame f ∷ xs) to h = elim h.0 [ ]
spelled_is (items.Header p ∷ xs) to h =
    let fs = all_frames (layout_of p) xs (places.Register (layout_of p)) to refl h.1 in
    let run : List Frame = fs.0 in
    let in_places = subst (λ (ys : List Item). AreItems places.Header (items.Header p ∷ ys) to) fs.1 h in
    let s = (in_order p run (items_spelling places.Header (items_of p run))).begun.1 (to, in_places, refl) in
    ap (λ (ys : List Item). spelled p (flat_map frame_in ys)) fs.1 ∙ ap (spelled p) (frames_spelled run) ∙ sym s.spelling
    ∙ ap (λ (ys : List Item). items_spelling places.Header (items.Header p ∷ ys)) (sym fs.1)

-- what is spelled of them is read as them
read_back : (xs : List Item) (to : Place) → AreItems places.Header xs to → items_in (spelled_items xs) ≡ xs
read_back xs to h =
    let bytes = items_spelling places.Header xs in
    ap items_in (spelled_is xs to h) ∙ (all_at_more xs to bytes [] (all_leads_on xs to bytes h refl) (nil_more to)).0

-- a copy whose items begin with these begins with their bytes
begins_so : (xs : List Item) (copy : List ℕ) → AreBytes copy → begins_with xs (items_in copy) ≡ true
    → starts_with nat_eq copy (spelled_items xs) ≡ true
begins_so xs copy are e =
    let long = (decoded_is copy are).items in
    let front = spelled-prefix xs (items_in copy) (begins-is_known xs (items_in copy) e) in
    let all : copy ≡ spelled_items (items_in copy) ++ long.rest =
    long.spelling ∙ ap (λ (bytes : List ℕ). bytes ++ long.rest) (sym (spelled_is (items_in copy) long.to long.items)) in
    let parts : copy ≡ spelled_items xs ++ (front.0 ++ long.rest) =
    all ∙ ap (λ (bytes : List ℕ). bytes ++ long.rest) (sym front.1) ∙ append_assoc (spelled_items xs) front.0 long.rest in
    (starts_is Decides-eqb copy (spelled_items xs) (starts_with nat_eq copy (spelled_items xs)) refl).1 (front.0 ++ long.rest) parts

-- ---- what most copies have in common

all_begin : (copies : List (List ℕ)) → count_by (λ copy. begins_with [] (items_in copy)) copies ≡ length copies
all_begin [] = refl
all_begin (c ∷ copies) =
    let n = count-cons (λ copy. begins_with [] (items_in copy)) c copies true refl in
    let m = all_begin copies in
    omega (arith, n, m)

module _ (copies : List (List ℕ)) where
  -- the items in common are held, as far as they go
  held_on : (given rest : List Item) → given ++ rest ≡ common copies → are_held copies given ≡ true
      → are_held copies (common copies) ≡ true
  held_on given [] is h = subst (λ (xs : List Item). are_held copies xs ≡ true) (sym (append-nil given) ∙ is) h
  held_on given (x ∷ rest) is h = by (held_on (given ++ x ∷ []) rest) (are_held copies (given ++ x ∷ [])) refl
    where
      next : (y : Item) → are_held copies (given ++ y ∷ []) ≡ true → y ≡ x
      next y k =
          let p = common-from copies (given ++ y ∷ []) k in
          let same : given ++ y ∷ p.0 ≡ given ++ x ∷ rest = sym (append_assoc given (y ∷ []) p.0) ∙ p.1 ∙ sym is in
          let behind : y ∷ p.0 ≡ x ∷ rest = sym (drop_at given (y ∷ p.0) (length given) refl) ∙ ap (drop (length given)) same
          ∙ drop_at given (x ∷ rest) (length given) refl in
          cc

      by : ((given ++ x ∷ []) ++ rest ≡ common copies → are_held copies (given ++ x ∷ []) ≡ true → are_held copies (common copies) ≡ true)
          → (b : Bool) → are_held copies (given ++ x ∷ []) ≡ b → are_held copies (common copies) ≡ true
      by on true e = on (append_assoc given (x ∷ []) rest ∙ is) e
      by on false e =
          let last = common-is copies given h (λ y k.
          let no : false ≡ true = sym e ∙ subst (λ (z : Item). are_held copies (given ++ z ∷ []) ≡ true) (next y k) k in cc) in
          subst (λ (xs : List Item). are_held copies xs ≡ true) (sym last) h

module _ (first : List ℕ) (others : List (List ℕ)) (bytes : AllByRecursion AreBytes (first ∷ others)) where
  abbrev copies : List (List ℕ)
  copies = first ∷ others

  common_held : are_held copies (common copies) ≡ true
  common_held =
      let all = all_begin copies in
      let none = most-is (count_by (λ copy. begins_with [] (items_in copy)) copies) (length copies) (omega (arith, all)) in
      held_on copies [] (common copies) refl none

  common_read : items_in (spelled_items (common copies)) ≡ common copies
  common_read =
      let n = most-true (count_by (λ copy. begins_with (common copies) (items_in copy)) copies) (length copies) common_held in
      let one = one-passes (λ copy. begins_with (common copies) (items_in copy)) copies bytes (omega (arith, n)) in
      let p = begins-is_known (common copies) (items_in one.0) one.2 in
      let long = (decoded_is one.0 one.1).items in
      let at = first_items (common copies) p.0 places.Header long.to
      (subst (λ (xs : List Item). AreItems places.Header xs long.to) (sym p.1) long.items) in
      read_back (common copies) at.0 at.1

  abbrev voted : List ℕ
  voted = spelled_items (common copies)

  most_begin : length copies < beginning_with voted copies + beginning_with voted copies
  most_begin =
      let n = most-true (count_by (λ copy. begins_with (common copies) (items_in copy)) copies) (length copies) common_held in
      let more = fewer (λ copy. begins_with (common copies) (items_in copy)) (λ copy. starts_with nat_eq copy voted) copies bytes
      (begins_so (common copies)) in
      omega (arith, n, more)

  are_common : AreCommon (spelled_items (common copies)) (length (common copies)) copies
  are_common = record {
    begun = most_begin;
    whole = ap spelled_items (sym common_read);
    number = ap (λ (xs : List Item). length xs) (sym common_read);
    held = subst (λ (xs : List Item). are_held copies xs ≡ true) (sym common_read) common_held;
    most = λ given h. subst (IsPrefix given) (sym common_read) (common-from copies given h);
  }

  by-split : (m : Option (List Item)) → majority copies ≡ m → (row : ℕ) → (voted_by m copies).answer ≡ NoMajority row
      → AreCommon (voted_by m copies).bytes row copies
  by-split (Some whole) is row e = absurd cc
  by-split None is row e =
      let same : length (common copies) ≡ row = cc in
      subst (λ (n : ℕ). AreCommon (spelled_items (common copies)) n copies) same are_common

  no_majority : (row : ℕ) → (vote_outcome copies).answer ≡ NoMajority row → (whole : List ℕ) → IsMajority whole copies → ⊥
  no_majority row e whole h =
      let done = ap (λ (o : Outcome). o.answer) (majority_is_written whole copies bytes h) in
      cc

pub split_is_common : SplitIsCommon
split_is_common first others row bytes e =
    (no_majority first others bytes row e, by-split first others bytes (majority (first ∷ others)) refl row e)
