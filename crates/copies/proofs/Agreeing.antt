-- Copies agree exactly where they are one whole record.
use Rattle.std.proofs.Common.{◌≡◌, ◌+◌, ◌-◌, ℕ, List, [], ◌∷◌, ◌++◌, map, length, drop, Option, Some, None, Ok}
use Rattle.std.proofs.Common.{refl, sym, ap, subst, ◌∙◌, append_assoc, length-append, arith}
use Rattle.std.proofs.lemmas.List.{append-nil, drop_at}
use Rattle.std.specs.Option.{option_map, option_or}
use Rattle.std.specs.List.{AllByRecursion}
use Rattle.det_io.specs.Prefix.{IsPrefix}
use Rattle.det_io.proofs.Prefixes.{prefix-same, prefix-length}
use Rattle.record_grammar.specs.declared.record_fault.RecordFault.{RecordFault}
use Rattle.record_grammar.specs.declared.item.Item.{Item}
use Rattle.record_grammar.specs.declared.place.Place.TheVariants as places
use Rattle.record_grammar.specs.Laws.{IsWhole, items_spelling}
use Rattle.record_grammar.specs.Read.{Read}
use Rattle.record_grammar.specs.Record.{Decoded, decoded, with_next, items as items_in, fault as fault_in}
use Rattle.record_grammar.specs.Spelling.{AreBytes}
use Rattle.record_grammar.proofs.Leads.{all_leads}
use Rattle.record_grammar.proofs.lemmas.record_laws.Whole.{nil_more, all_leads_on, decoded_is}
use Rattle.record_reader.specs.Salvaged.{cycles_of}
use Rattle.copies.specs.declared.difference.Difference.{Difference}
use Rattle.copies.specs.declared.row.Row.{Row}
use Rattle.copies.specs.declared.row.Row.TheVariants as rows
use Rattle.copies.specs.declared.verdict.BadCopy.{BadCopy}
use Rattle.copies.specs.declared.verdict.Verdict.{Verdict}
use Rattle.copies.specs.declared.verdict.Verdict.TheVariants.{Agree, Differ}
use Rattle.copies.specs.Rows.{first_row, row_at}
use Rattle.copies.specs.Verdict.{row_difference, first_bad, first_other, judged, row_verdict, shared_by, verdict}
use Rattle.copies.specs.Laws.{AreOneRecord}
use Rattle.copies.proofs.Judging.{item-apart, whole-apart, none-other, shared_by-left, shared_by-each, shared_by-most, verdict-is}

-- ---- whole records

-- a whole record is the spelling of its items
whole-spelled : (bytes : List ℕ) → AreBytes bytes → fault_in bytes ≡ None → bytes ≡ items_spelling places.Header (items_in bytes)
whole-spelled bytes are none = by ((decoded_is bytes are).whole none)
  where
    by : IsWhole bytes → bytes ≡ items_spelling places.Header (items_in bytes)
    by (xs, h, spelled) =
        let d = all_leads xs places.End bytes [] (all_leads_on xs places.End bytes h spelled) in
        let is : items_in bytes ≡ xs = ap (λ (x : Decoded). x.items) d
        ∙ ap (λ (r : Read Item). xs ++ (with_next places.End r (decoded (length bytes - length xs))).items) (nil_more places.End)
        ∙ append-nil xs in
        spelled ∙ ap (items_spelling places.Header) (sym is)

one-record : (a b : List ℕ) → AreBytes a → AreBytes b → fault_in a ≡ None → fault_in b ≡ None → items_in a ≡ items_in b → a ≡ b
one-record a b p q none none-too same =
    whole-spelled a p none ∙ ap (items_spelling places.Header) same ∙ sym (whole-spelled b q none-too)

-- ---- a row after shared items

-- the row by what follows the shared items
follows : (given rest : List Item) (copy : List ℕ) → given ++ rest ≡ items_in copy
    → row_at (length given) copy ≡ first_row rest (fault_in copy)
follows given rest copy e =
    ap (λ xs. first_row (drop (length given) xs) (fault_in copy)) (sym e)
    ∙ ap (λ xs. first_row xs (fault_in copy)) (drop_at given rest (length given) refl)

ends-whole : (rest : List Item) (end : Option RecordFault) → first_row rest end ≡ rows.Whole → (rest ≡ []) × (end ≡ None)
ends-whole [] None e = (refl, refl)
ends-whole [] (Some f) e = absurd cc
ends-whole (x ∷ rest) end e = absurd cc

begins-item : (rest : List Item) (end : Option RecordFault) (x : Item) → first_row rest end ≡ rows.Item x
    → (more : List Item) × (rest ≡ x ∷ more)
begins-item [] None x e = absurd cc
begins-item [] (Some f) x e = absurd cc
begins-item (y ∷ rest) end x e = (rest, cc)

-- a copy that is whole after these items
whole-there : (given : List Item) (copy : List ℕ) → IsPrefix given (items_in copy) → row_at (length given) copy ≡ rows.Whole
    → (items_in copy ≡ given) × (fault_in copy ≡ None)
whole-there given copy p e =
    let ends = ends-whole p.0 (fault_in copy) (sym (follows given p.0 copy p.1) ∙ e) in
    (sym p.1 ∙ ap (λ r. given ++ r) ends.0 ∙ append-nil given, ends.1)

item-there : (given : List Item) (x : Item) (copy : List ℕ) → IsPrefix given (items_in copy) → row_at (length given) copy ≡ rows.Item x
    → IsPrefix (given ++ x ∷ []) (items_in copy)
item-there given x copy p e =
    let more = begins-item p.0 (fault_in copy) x (sym (follows given p.0 copy p.1) ∙ e) in
    (more.0, append_assoc given (x ∷ []) more.0 ∙ ap (λ r. given ++ r) (sym more.1) ∙ p.1)

-- ---- from the verdict

never-agree : (n : ℕ) (row : Row) (copy : ℕ) (more : List Row) (cycles : ℕ) → first_other n row copy more ≡ Some (Agree cycles) → ⊥
never-agree n row copy [] cycles e = cc
never-agree n row copy (r ∷ more) cycles e = by (row_difference n row r) (never-agree n row (copy + 1) more cycles) e
  where
    by : (o : Option Difference) → (first_other n row (copy + 1) more ≡ Some (Agree cycles) → ⊥)
        → option_or (option_map (Differ copy) o) (first_other n row (copy + 1) more) ≡ Some (Agree cycles) → ⊥
    by (Some x) later e = cc
    by None later e = later e

judged-agree : (bad : Option BadCopy) (other : Option Verdict) (k cycles : ℕ) → judged bad other k ≡ Ok (Agree cycles)
    → (other ≡ Some (Agree cycles) → ⊥) → (bad ≡ None) × (other ≡ None) × (cycles ≡ k)
judged-agree (Some bad) other k cycles e never = absurd cc
judged-agree None (Some v) k cycles e never = absurd (never (cc))
judged-agree None None k cycles e never = (refl, refl, cc)

all-items : (n : ℕ) (given : List Item) (x : Item) (others : List (List ℕ)) → AllByRecursion (λ c. IsPrefix given (items_in c)) others
    → AllByRecursion (λ r. row_difference n (rows.Item x) r ≡ None) (map (row_at (length given)) others)
    → AllByRecursion (λ c. IsPrefix (given ++ x ∷ []) (items_in c)) others
all-items n given x [] p all = tt
all-items n given x (c ∷ others) p all =
    (item-there given x c p.0 (sym ((item-apart n x (row_at (length given) c)).0 all.0)), all-items n given x others p.1 all.1)

all-same : (n : ℕ) (given : List Item) (first : List ℕ) (others : List (List ℕ)) → AreBytes first → AllByRecursion AreBytes others
    → items_in first ≡ given → fault_in first ≡ None → AllByRecursion (λ c. IsPrefix given (items_in c)) others
    → AllByRecursion (λ r. row_difference n rows.Whole r ≡ None) (map (row_at (length given)) others)
    → AllByRecursion (λ copy. copy ≡ first) others
all-same n given first [] are bytes items none p all = tt
all-same n given first (c ∷ others) are bytes items none p all =
    let there = whole-there given c p.0 (whole-apart n (row_at (length given) c) all.0) in
    (one-record c first bytes.0 are there.1 none (there.0 ∙ sym items), all-same n given first others are bytes.1 items none p.1 all.1)

pub agrees : (first : List ℕ) (others : List (List ℕ)) (cycles : ℕ) → AllByRecursion AreBytes (first ∷ others)
    → verdict (first ∷ others) ≡ Ok (Agree cycles) → AreOneRecord first others cycles
agrees first others cycles bytes e =
    by (row_at (length given) first) refl parts.0
    (none-other (length given) (row_at (length given) first) 1 (map (row_at (length given)) others) parts.1)
  where
    given : List Item
    given = shared_by (items_in first) others

    parts : (first_bad 0 (map (row_at (length given)) (first ∷ others)) ≡ None)
        × (first_other (length given) (row_at (length given) first) 1 (map (row_at (length given)) others) ≡ None)
        × (cycles ≡ cycles_of given)
    parts = judged-agree (first_bad 0 (map (row_at (length given)) (first ∷ others)))
        (first_other (length given) (row_at (length given) first) 1 (map (row_at (length given)) others)) (cycles_of given) cycles e
        (never-agree (length given) (row_at (length given) first) 1 (map (row_at (length given)) others) cycles)

    by : (row : Row) → row_at (length given) first ≡ row
        → first_bad 0 (row_at (length given) first ∷ map (row_at (length given)) others) ≡ None
        → AllByRecursion (λ r. row_difference (length given) (row_at (length given) first) r ≡ None) (map (row_at (length given)) others)
        → AreOneRecord first others cycles
    by rows.Whole is sound all =
        let there = whole-there given first (shared_by-left (items_in first) others) is in
        record {
          whole = there.1;
          same = all-same (length given) given first others bytes.0 bytes.1 there.0 there.1 (shared_by-each (items_in first) others)
              (subst (λ row. AllByRecursion (λ r. row_difference (length given) row r ≡ None) (map (row_at (length given)) others)) is all);
          count = parts.2 ∙ ap cycles_of (sym there.0);
        }
    by (rows.Item x) is sound all =
        let longer = shared_by-most (given ++ x ∷ []) (items_in first) others
        (item-there given x first (shared_by-left (items_in first) others) is)
        (all-items (length given) given x others (shared_by-each (items_in first) others)
        (subst (λ row. AllByRecursion (λ r. row_difference (length given) row r ≡ None) (map (row_at (length given)) others)) is all)) in
        let n = prefix-length (given ++ x ∷ []) given longer in
        let m = length-append given (x ∷ []) in
        absurd (omega (arith, n, m))
    by (rows.Fault f) is sound all =
        let bad : first_bad 0 (rows.Fault f ∷ map (row_at (length given)) others) ≡ None =
        subst (λ row. first_bad 0 (row ∷ map (row_at (length given)) others) ≡ None) is sound in absurd cc

-- ---- to the verdict

whole-on : (n copy : ℕ) (first : List ℕ) (others : List (List ℕ)) → AllByRecursion (λ c. c ≡ first) others
    → row_at n first ≡ rows.Whole
    → (first_bad copy (map (row_at n) others) ≡ None) × (first_other n rows.Whole copy (map (row_at n) others) ≡ None)
whole-on n copy first [] all is = (refl, refl)
whole-on n copy first (c ∷ others) all is =
    let rest = whole-on n (copy + 1) first others all.1 is in
    let row : row_at n c ≡ rows.Whole = ap (row_at n) all.0 ∙ is in (
      ap (λ r. first_bad copy (r ∷ map (row_at n) others)) row ∙ rest.0,
      ap (λ r. first_other n rows.Whole copy (r ∷ map (row_at n) others)) row ∙ rest.1,
    )

same-prefix : (first : List ℕ) (others : List (List ℕ)) → AllByRecursion (λ c. c ≡ first) others
    → AllByRecursion (λ c. IsPrefix (items_in first) (items_in c)) others
same-prefix first [] all = tt
same-prefix first (c ∷ others) all =
    (subst (λ xs. IsPrefix (items_in first) xs) (ap items_in (sym all.0)) (prefix-same (items_in first)), same-prefix first others all.1)

pub agreed : (first : List ℕ) (others : List (List ℕ)) (cycles : ℕ) → AreOneRecord first others cycles
    → verdict (first ∷ others) ≡ Ok (Agree cycles)
agreed first others cycles h =
    let is : row_at (length (items_in first)) first ≡ rows.Whole =
    follows (items_in first) [] first (append-nil (items_in first)) ∙ ap (first_row []) h.whole in
    let on = whole-on (length (items_in first)) 1 first others h.same is in
    verdict-is (items_in first) first others (prefix-same (items_in first)) (same-prefix first others h.same)
    (λ x row none other. let no : rows.Whole ≡ rows.Item x = sym is ∙ row in cc)
    ∙ ap (λ row. row_verdict (items_in first) (row ∷ map (row_at (length (items_in first))) others)) is
    ∙ ap (λ o. judged o (first_other (length (items_in first)) rows.Whole 1 (map (row_at (length (items_in first))) others))
    (cycles_of (items_in first))) on.0
    ∙ ap (λ o. judged None o (cycles_of (items_in first))) on.1
    ∙ ap (λ n. Ok (Agree n)) (sym h.count)
