-- The items with which more than half of the copies begin, and the record that more than half are.
use Rattle.std.proofs.Common.{◌≡◌, ◌+◌, ◌<◌, ◌≤◌, ℕ, Bool, true, false, cond, leb, List, [], ◌∷◌, ◌++◌, map, length, get_or}
use Rattle.std.proofs.Common.{Option, Some, None}
use Rattle.std.proofs.Common.{refl, sym, ap, subst, ◌∙◌, append_assoc, append-nil, arith}
use Rattle.std.specs.Prelude.{is_none, unwrap_or}
use Rattle.std.specs.List.{count_by, find}
use Rattle.std.specs.Cmp.Lexicographic.{pointwise, pointwise_decides}
use Rattle.std.proofs.lemmas.Bool.{and_from, and_parts, leb-true, leb-false, cond-true}
use Rattle.det_io.specs.Prefix.{IsPrefix}
use Rattle.std.proofs.lemmas.List.{length-map}
use Rattle.det_io.proofs.Prefixes.{prefix-same, prefix-then, prefix-length}
use Rattle.record_grammar.specs.declared.record_fault.RecordFault.{RecordFault}
use Rattle.record_grammar.specs.declared.item.Item.{Item}
use Rattle.record_grammar.specs.Record.{items as items_in, fault as fault_in}
use Rattle.record_grammar.specs.contracts.item.ItemPartialEq.TheImpl as item
use Rattle.copies.specs.declared.row.Row.{Row}
use Rattle.copies.specs.declared.row.Row.TheVariants as rows
use Rattle.copies.specs.Rows.{first_row, row_at}
use Rattle.copies.proofs.Equality.{item_decides}
use Rattle.cmd_records.specs.voter.Majority.{is_record, is_most, is_majority, majority, are_held, held, longest, common}
use Rattle.cmd_records.specs.voter.Majority.{spelled_items, voted_items, voted}
use Rattle.cmd_records.specs.voter.Rows.{same_row, is_held}
use Rattle.cmd_records.specs.voter.VotersState.{IsRecord}
use Rattle.cmd_records.proofs.lemmas.voter.Counting.{most-true, most-is, count-cons, both, count-le, count-same, count-map, passes-at}
use Rattle.cmd_records.proofs.lemmas.voter.Counting.{find-only, find-none}
use Rattle.cmd_records.proofs.lemmas.voter.Prefixes.{begins_with, begins-yes, begins-is_known, begins-shorter, shorter-first, follows}
use Rattle.cmd_records.proofs.lemmas.voter.Prefixes.{row_behind}
use Rattle.cmd_records.proofs.lemmas.voter.Prefixes.{same-begins, same-is, sound-row}
use Rattle.cmd_records.proofs.lemmas.voter.Spelled.{spelled-prefix}

-- how many copies begin with these items
abbrev pub beginning : List (List ℕ) → List Item → ℕ
beginning copies given = count_by (λ copy. begins_with given (items_in copy)) copies

-- ---- items in common

pub held-shorter : (copies : List (List ℕ)) (given more : List Item) → are_held copies (given ++ more) ≡ true
    → are_held copies given ≡ true
held-shorter copies given more e =
    let n = most-true (beginning copies (given ++ more)) (length copies) e in
    let m = count-le (λ copy. begins_with (given ++ more) (items_in copy)) (λ copy. begins_with given (items_in copy)) copies
    (λ c. begins-shorter given more (items_in c)) in
    most-is (beginning copies given) (length copies) (omega (arith, n, m))

pub held-first : (copies : List (List ℕ)) (a b : List Item) → are_held copies a ≡ true → are_held copies b ≡ true
    → length a ≤ length b → IsPrefix a b
held-first copies a b h k less =
    let n = most-true (beginning copies a) (length copies) h in
    let m = most-true (beginning copies b) (length copies) k in
    let c = both (λ copy. begins_with a (items_in copy)) (λ copy. begins_with b (items_in copy)) copies (omega (arith, n, m)) in
    shorter-first a b (items_in c.0) (begins-is_known a (items_in c.0) c.1) (begins-is_known b (items_in c.0) c.2) less

held-on : (copies : List (List ℕ)) (given behind : List Item) → are_held copies given ≡ true
    → (are_held copies (held copies given behind) ≡ true) × IsPrefix given (held copies given behind)
held-on copies given [] h = (h, prefix-same given)
held-on copies given (x ∷ behind) h = by (held-on copies (given ++ x ∷ []) behind) (are_held copies (given ++ x ∷ [])) refl
  where
    by : (are_held copies (given ++ x ∷ []) ≡ true → (are_held copies (held copies (given ++ x ∷ []) behind) ≡ true)
        × IsPrefix (given ++ x ∷ []) (held copies (given ++ x ∷ []) behind)) → (b : Bool) → are_held copies (given ++ x ∷ []) ≡ b
        → (are_held copies (cond b (held copies (given ++ x ∷ []) behind) given) ≡ true)
        × IsPrefix given (cond b (held copies (given ++ x ∷ []) behind) given)
    by on true e = let r = on e in
        (r.0, prefix-then given (given ++ x ∷ []) (held copies (given ++ x ∷ []) behind) (x ∷ [], refl) r.1)
    by on false e = (h, prefix-same given)

begin-nothing : (copies : List (List ℕ)) → beginning copies [] ≡ length copies
begin-nothing [] = refl
begin-nothing (c ∷ copies) =
    let n = count-cons (λ copy. begins_with [] (items_in copy)) c copies true refl in
    let rest = begin-nothing copies in
    omega (arith, n, rest)

-- all copies begin with no items
pub held-nothing : (copies : List (List ℕ)) → 1 ≤ length copies → are_held copies [] ≡ true
held-nothing copies some =
    let all = begin-nothing copies in most-is (beginning copies []) (length copies) (omega (arith, all, some))

-- what is held is reached
held-reaches : (copies : List (List ℕ)) (given more rest : List Item) → are_held copies (given ++ more) ≡ true
    → IsPrefix (given ++ more) (held copies given (more ++ rest))
held-reaches copies given [] rest h =
    subst (λ xs. IsPrefix xs (held copies given rest)) (sym (append-nil given))
    (held-on copies given rest (held-shorter copies given [] h)).1
held-reaches copies given (x ∷ more) rest h =
    let same : (given ++ x ∷ []) ++ more ≡ given ++ x ∷ more = append_assoc given (x ∷ []) more in
    let longer = subst (λ xs. are_held copies xs ≡ true) (sym same) h in
    let one = held-shorter copies (given ++ x ∷ []) more longer in
    let on = held-reaches copies (given ++ x ∷ []) more rest longer in
    subst (λ xs. IsPrefix xs (cond (are_held copies (given ++ x ∷ [])) (held copies (given ++ x ∷ []) (more ++ rest)) given)) same
    (subst (λ xs. IsPrefix ((given ++ x ∷ []) ++ more) xs)
    (sym (cond-true (are_held copies (given ++ x ∷ [])) (held copies (given ++ x ∷ []) (more ++ rest)) given one)) on)

longest-of : (first : List Item) (others : List (List Item)) → (length first ≤ length (longest (first ∷ others)))
    × (length (longest others) ≤ length (longest (first ∷ others)))
longest-of first others = by (leb (length (longest others)) (length first)) refl
  where
    by : (b : Bool) → leb (length (longest others)) (length first) ≡ b
        → (length first ≤ length (cond b first (longest others))) × (length (longest others) ≤ length (cond b first (longest others)))
    by true e = let n = leb-true (length (longest others)) (length first) e in (omega arith, omega (arith, n))
    by false e = let n = leb-false (length (longest others)) (length first) e in (omega (arith, n), omega arith)

longest-is : (P : List Item → Type 0) (first : List Item) (others : List (List Item)) → P first → P (longest others)
    → P (longest (first ∷ others))
longest-is P first others p q = by (leb (length (longest others)) (length first))
  where
    by : (b : Bool) → P (cond b first (longest others))
    by true = p
    by false = q

longest-held : (copies some : List (List ℕ)) → are_held copies [] ≡ true
    → are_held copies (longest (map (λ copy. held copies [] (items_in copy)) some)) ≡ true
longest-held copies [] h = h
longest-held copies (c ∷ some) h =
    longest-is (λ xs. are_held copies xs ≡ true) (held copies [] (items_in c)) (map (λ copy. held copies [] (items_in copy)) some)
    (held-on copies [] (items_in c) h).0 (longest-held copies some h)

longest-long : (copies some : List (List ℕ)) (given : List Item) → are_held copies given ≡ true
    → 0 < count_by (λ copy. begins_with given (items_in copy)) some
    → length given ≤ length (longest (map (λ copy. held copies [] (items_in copy)) some))
longest-long copies [] given h n = absurd (omega (arith, n))
longest-long copies (c ∷ some) given h n =
    by (longest-long copies some given h) (begins_with given (items_in c)) refl
  where
    all : List (List Item)
    all = map (λ copy. held copies [] (items_in copy)) some

    by : (0 < count_by (λ copy. begins_with given (items_in copy)) some → length given ≤ length (longest all)) → (b : Bool)
        → begins_with given (items_in c) ≡ b → length given ≤ length (longest (held copies [] (items_in c) ∷ all))
    by on true e =
        let p = begins-is_known given (items_in c) e in
        let reached = subst (λ xs. IsPrefix given (held copies [] xs)) p.1 (held-reaches copies [] given p.0 h) in
        let m = prefix-length given (held copies [] (items_in c)) reached in
        let k = (longest-of (held copies [] (items_in c)) all).0 in
        omega (arith, m, k)
    by on false e =
        let m = count-cons (λ copy. begins_with given (items_in copy)) c some false e in
        let k = (longest-of (held copies [] (items_in c)) all).1 in
        let r = on (omega (arith, n, m)) in
        omega (arith, r, k)

-- what is held comes first of all that is in common
pub common-from : (copies : List (List ℕ)) (given : List Item) → are_held copies given ≡ true → IsPrefix given (common copies)
common-from copies given h =
    let n = most-true (beginning copies given) (length copies) h in
    held-first copies given (common copies) h (longest-held copies copies (held-shorter copies [] given h))
    (longest-long copies copies given h (omega (arith, n)))

-- where no further item is held, these are the items in common
pub common-is : (copies : List (List ℕ)) (given : List Item) → are_held copies given ≡ true
    → ((x : Item) → are_held copies (given ++ x ∷ []) ≡ true → ⊥) → common copies ≡ given
common-is copies given h none = by (common-from copies given h).0 (common-from copies given h).1
  where
    by : (rest : List Item) → given ++ rest ≡ common copies → common copies ≡ given
    by [] e = sym e ∙ append-nil given
    by (x ∷ rest) e =
        let all = longest-held copies copies (held-shorter copies [] given h) in
        let same : (given ++ x ∷ []) ++ rest ≡ common copies = append_assoc given (x ∷ []) rest ∙ e in
        absurd (none x (held-shorter copies (given ++ x ∷ []) rest (subst (λ xs. are_held copies xs ≡ true) (sym same) all)))

-- ---- the majority

none-is_known : (o : Option RecordFault) → is_none o ≡ true → o ≡ None
none-is_known None e = refl
none-is_known (Some f) e = absurd cc

-- the test of a record
pub record-is_known : (given : List Item) (copy : List ℕ) → is_record given copy ≡ true → IsRecord given copy
record-is_known given copy e =
    let p = and_parts (is_none (fault_in copy)) (pointwise item.eq-value.it given (items_in copy)) e in
    record {
      items = sym ((pointwise_decides item_decides given (items_in copy)).0 p.1);
      whole = none-is_known (fault_in copy) p.0;
    }

pub record-yes : (given : List Item) (copy : List ℕ) → IsRecord given copy → is_record given copy ≡ true
record-yes given copy r =
    and_from (is_none (fault_in copy)) (pointwise item.eq-value.it given (items_in copy)) (ap is_none r.whole)
    ((pointwise_decides item_decides given (items_in copy)).1 (sym r.items))

-- a copy that is the majority's record and begins with what is held
majority-copy : (copies : List (List ℕ)) (whole given : List Item) → is_majority copies whole ≡ true → are_held copies given ≡ true
    → (copy : List ℕ) × IsRecord whole copy × IsPrefix given (items_in copy)
majority-copy copies whole given e h =
    let n = most-true (count_by (is_record whole) copies) (length copies) e in
    let m = most-true (beginning copies given) (length copies) h in
    let c = both (is_record whole) (λ copy. begins_with given (items_in copy)) copies (omega (arith, n, m)) in
    (c.0, record-is_known whole c.0 c.1, begins-is_known given (items_in c.0) c.2)

-- the majority's record begins with what is held
pub majority-begins : (copies : List (List ℕ)) (whole given : List Item) → is_majority copies whole ≡ true
    → are_held copies given ≡ true → IsPrefix given whole
majority-begins copies whole given e h =
    let c = majority-copy copies whole given e h in subst (λ xs. IsPrefix given xs) c.1.items c.2

pub majority-is : (copies : List (List ℕ)) (given : List Item) → is_majority copies given ≡ true → majority copies ≡ Some given
majority-is copies given most =
    find-only (is_majority copies) given (map items_in copies) only
    (let k = count-le (is_record given) (λ c. is_majority copies (items_in c)) copies yes in
    let j = count-map (is_majority copies) items_in copies in
    omega (arith, n, k, j))
  where
    n : length copies < count_by (is_record given) copies + count_by (is_record given) copies
    n = most-true (count_by (is_record given) copies) (length copies) most

    yes : (c : List ℕ) → is_record given c ≡ true → is_majority copies (items_in c) ≡ true
    yes c e = let r = record-is_known given c e in subst (λ xs. is_majority copies xs ≡ true) (sym r.items) most

    only : (xs : List Item) → is_majority copies xs ≡ true → xs ≡ given
    only xs e =
        let m = most-true (count_by (is_record xs) copies) (length copies) e in
        let d = both (is_record xs) (is_record given) copies (omega (arith, n, m)) in
        let r = record-is_known xs d.0 d.1 in
        let t = record-is_known given d.0 d.2 in
        sym r.items ∙ t.items

-- ---- rows that are held

-- where none of these rows is held, no row is
pub none-held : (all : List (Option Row)) → ((k : ℕ) → k < length all → is_held all (get_or all k None) ≡ false) → (row : Option Row)
    → is_held all row ≡ true → ⊥
none-held all none row e =
    let n = most-true (count_by (same_row row) all) (length all) e in
    let at = passes-at (same_row row) all None (omega (arith, n)) in
    let same = same-is row (get_or all at.0 None) at.2 in
    let no : false ≡ true = sym (none at.0 at.1) ∙ subst (λ r. is_held all r ≡ true) same e in
    no-way no
  where
    no-way : false ≡ true → ⊥
    no-way d = cc

-- an item is held as a row if more than half begin with it after the given items
pub held-row : (copies : List (List ℕ)) (given : List Item) (x : Item)
    → is_held (map (row_behind given) copies) (Some (rows.Item x)) ≡ are_held copies (given ++ x ∷ [])
held-row copies given x =
    ap (λ n. is_most (count_by (same_row (Some (rows.Item x))) (map (row_behind given) copies)) n) (length-map copies (row_behind given))
    ∙ ap (λ n. is_most n (length copies)) (count-map (same_row (Some (rows.Item x))) (row_behind given) copies
    ∙ count-same (λ c. same_row (Some (rows.Item x)) (row_behind given c)) (λ c. begins_with (given ++ x ∷ []) (items_in c)) copies
    (same-begins given x))

-- where no row is held there is no majority
pub split-majority : (copies : List (List ℕ)) (given : List Item) → are_held copies given ≡ true
    → ((row : Option Row) → is_held (map (row_behind given) copies) row ≡ true → ⊥) → majority copies ≡ None
split-majority copies given h none = find-none (is_majority copies) (map items_in copies) not-whole
  where
    -- the row of a copy of a record that begins with what is held
    behind : (whole : List Item) (p : IsPrefix given whole) (c : List ℕ) → IsRecord whole c
        → row_behind given c ≡ Some (first_row p.0 None)
    behind whole p c r =
        let begins : IsPrefix given (items_in c) = subst (λ xs. IsPrefix given xs) (sym r.items) p in
        cond-true (begins_with given (items_in c)) (Some (row_at (length given) c)) None (begins-yes given (items_in c) begins)
        ∙ ap (λ z. Some z) (follows given p.0 c (p.1 ∙ sym r.items) ∙ ap (first_row p.0) r.whole)

    not-whole : (whole : List Item) → is_majority copies whole ≡ true → ⊥
    not-whole whole e =
        let p = majority-begins copies whole given e h in
        let row : Option Row = Some (first_row p.0 None) in
        let n = most-true (count_by (is_record whole) copies) (length copies) e in
        let m = count-le (is_record whole) (λ d. same_row row (row_behind given d)) copies
        (λ d f. subst (λ r. same_row row r ≡ true) (sym (behind whole p d (record-is_known whole d f))) (sound-row p.0)) in
        let k = count-map (same_row row) (row_behind given) copies in
        let all = length-map copies (row_behind given) in
        none row (most-is (count_by (same_row row) (map (row_behind given) copies)) (length (map (row_behind given) copies))
        (omega (arith, n, m, k, all)))

-- ---- what is voted

-- what is found passes
found : {A : Type 0} (p : A → Bool) (w : A) (xs : List A) → find p xs ≡ Some w → p w ≡ true
found p w [] e = absurd cc
found {A} p w (x ∷ xs) e = by (p x) refl e (found p w xs)
  where
    by : (b : Bool) → p x ≡ b → cond b (Some x) (find p xs) ≡ Some w → (find p xs ≡ Some w → p w ≡ true) → p w ≡ true
    by true d f on = let same : x ≡ w = cc in subst (λ (y : A). p y ≡ true) same d
    by false d f on = on f

pub majority-passes : (copies : List (List ℕ)) (whole : List Item) → majority copies ≡ Some whole → is_majority copies whole ≡ true
majority-passes copies whole e = found (is_majority copies) whole (map items_in copies) e

-- items that are held come first of what is voted
pub items-from : (copies : List (List ℕ)) (given : List Item) → are_held copies given ≡ true → IsPrefix given (voted_items copies)
items-from copies given h = by (majority copies) refl
  where
    by : (o : Option (List Item)) → majority copies ≡ o → IsPrefix given (unwrap_or o (common copies))
    by (Some whole) e = majority-begins copies whole given (majority-passes copies whole e) h
    by None e = common-from copies given h

-- and so does what is spelled of them
pub voted-from : (copies : List (List ℕ)) (given : List Item) → are_held copies given ≡ true
    → IsPrefix (spelled_items given) (voted copies)
voted-from copies given h = spelled-prefix given (voted_items copies) (items-from copies given h)
