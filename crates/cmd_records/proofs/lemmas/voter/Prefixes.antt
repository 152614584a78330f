-- Lists of items that begin others, and where they part.
use Rattle.std.proofs.Common.{◌≡◌, ◌+◌, ◌≤◌, ℕ, Bool, true, false, cond, ◌&&◌, List, [], ◌∷◌, ◌++◌, length, drop, Option, Some, None}
use Rattle.std.proofs.Common.{refl, sym, ap, ◌∙◌, add-zero, zero-add, arith}
use Rattle.std.specs.Prelude.{is_none}
use Rattle.std.specs.List.{starts_with}
use Rattle.std.proofs.lemmas.List.{drop_at}
use Rattle.std.proofs.lemmas.Bool.{and_from, and_parts, false_from_ne_true}
use Rattle.det_io.specs.Prefix.{IsPrefix}
use Rattle.det_io.proofs.Prefixes.{prefix-none, prefix-then}
use Rattle.record_grammar.specs.declared.record_fault.RecordFault.{RecordFault}
use Rattle.record_grammar.specs.declared.item.Item.{Item}
use Rattle.record_grammar.specs.contracts.item.ItemPartialEq.TheImpl as item
use Rattle.record_grammar.specs.Record.{items as items_in, fault as fault_in}
use Rattle.copies.specs.declared.row.Row.{Row}
use Rattle.copies.specs.declared.row.Row.TheVariants as rows
use Rattle.copies.specs.Rows.{first_row, row_at}
use Rattle.copies.specs.Verdict.{shared}
use Rattle.copies.proofs.Equality.{item_decides}
use Rattle.cmd_records.specs.voter.Rows.{same_row, parts_at}

-- whether a list of items begins with these
abbrev pub begins_with : (given all : List Item) → Bool
begins_with given all = starts_with item.eq-value.it all given

pub begins-yes : (given all : List Item) → IsPrefix given all → begins_with given all ≡ true
begins-yes [] all p = refl
begins-yes (x ∷ given) [] p = let e : x ∷ (given ++ p.0) ≡ [] = p.1 in absurd cc
begins-yes (x ∷ given) (y ∷ all) p =
    let e : x ∷ (given ++ p.0) ≡ y ∷ all = p.1 in
    let same : x ≡ y = cc in
    and_from (item.eq-value.it x y) (begins_with given all) ((item_decides x y).1 same) (begins-yes given all (p.0, cc))

pub begins-is_known : (given all : List Item) → begins_with given all ≡ true → IsPrefix given all
begins-is_known [] all e = prefix-none all
begins-is_known (x ∷ given) [] e = absurd cc
begins-is_known (x ∷ given) (y ∷ all) e =
    let p = and_parts (item.eq-value.it x y) (begins_with given all) e in
    let rest = begins-is_known given all p.1 in
    (rest.0, ap (λ z. z ∷ (given ++ rest.0)) ((item_decides x y).0 p.0) ∙ ap (λ l. y ∷ l) rest.1)

pub begins-shorter : (given more all : List Item) → begins_with (given ++ more) all ≡ true → begins_with given all ≡ true
begins-shorter given more all e =
    begins-yes given all (prefix-then given (given ++ more) all (more, refl) (begins-is_known (given ++ more) all e))

-- of two lists with which one begins the shorter one begins the other
pub shorter-first : (a b all : List Item) → IsPrefix a all → IsPrefix b all → length a ≤ length b → IsPrefix a b
shorter-first [] b all p q less = prefix-none b
shorter-first (x ∷ a) [] all p q less = absurd (omega (arith, less))
shorter-first (x ∷ a) (y ∷ b) [] p q less = let e : x ∷ (a ++ p.0) ≡ [] = p.1 in absurd cc
shorter-first (x ∷ a) (y ∷ b) (z ∷ all) p q less =
    let d : x ∷ (a ++ p.0) ≡ z ∷ all = p.1 in
    let e : y ∷ (b ++ q.0) ≡ z ∷ all = q.1 in
    let same : x ≡ y = cc in
    let rest = shorter-first a b all (p.0, cc) (q.0, cc) (omega (arith, less)) in
    (rest.0, ap (λ l. l ∷ (a ++ rest.0)) same ∙ ap (λ l. y ∷ l) rest.1)

-- ---- where they part

pub begins-parts : (n : ℕ) (given all : List Item) → begins_with given all ≡ is_none (parts_at n given all)
begins-parts n [] all = refl
begins-parts n (x ∷ given) [] = refl
begins-parts n (x ∷ given) (y ∷ all) = by (begins-parts (n + 1) given all) (item.eq-value.it x y)
  where
    by : begins_with given all ≡ is_none (parts_at (n + 1) given all) → (b : Bool)
        → (b && begins_with given all) ≡ is_none (cond b (parts_at (n + 1) given all) (Some n))
    by on true = on
    by on false = refl

pub parts-longer : (n : ℕ) (given more all : List Item) (m : ℕ) → parts_at n given all ≡ Some m → parts_at n (given ++ more) all ≡ Some m
parts-longer n [] more all m e = absurd cc
parts-longer n (x ∷ given) more [] m e = e
parts-longer n (x ∷ given) more (y ∷ all) m e = by (parts-longer (n + 1) given more all m) (item.eq-value.it x y) e
  where
    by : (parts_at (n + 1) given all ≡ Some m → parts_at (n + 1) (given ++ more) all ≡ Some m) → (b : Bool)
        → cond b (parts_at (n + 1) given all) (Some n) ≡ Some m → cond b (parts_at (n + 1) (given ++ more) all) (Some n) ≡ Some m
    by on true e = on e
    by on false e = e

-- they share what comes before that
pub parts-shared : (n : ℕ) (given all : List Item) (m : ℕ) → parts_at n given all ≡ Some m → n + length (shared given all) ≡ m
parts-shared n [] all m e = absurd cc
parts-shared n (x ∷ given) [] m e = let s : n ≡ m = cc in omega (arith, s)
parts-shared n (x ∷ given) (y ∷ all) m e = by (parts-shared (n + 1) given all m) (item.eq-value.it x y) e
  where
    by : (parts_at (n + 1) given all ≡ Some m → (n + 1) + length (shared given all) ≡ m) → (b : Bool)
        → cond b (parts_at (n + 1) given all) (Some n) ≡ Some m → n + length (cond b (x ∷ shared given all) []) ≡ m
    by on true e = let r = on e in omega (arith, r)
    by on false e = let s : n ≡ m = cc in omega (arith, s)

equal-items : (x : Item) → item.eq-value.it x x ≡ true
equal-items x = (item_decides x x).1 refl

pub shared-front : (given rest : List Item) → shared given (given ++ rest) ≡ given
shared-front [] rest = refl
shared-front (x ∷ given) rest =
    ap (λ b. cond b (x ∷ shared given (given ++ rest)) []) (equal-items x) ∙ ap (λ l. x ∷ l) (shared-front given rest)

parts-front : (n : ℕ) (given : List Item) (x : Item) (rest : List Item)
    → parts_at n (given ++ x ∷ []) (given ++ rest) ≡ parts_at (n + length given) (x ∷ []) rest
parts-front n [] x rest = ap (λ k. parts_at k (x ∷ []) rest) (sym (add-zero n))
parts-front n (y ∷ given) x rest =
    let further : (n + 1) + length given ≡ n + length (y ∷ given) = omega arith in
    ap (λ b. cond b (parts_at (n + 1) (given ++ x ∷ []) (given ++ rest)) (Some n)) (equal-items y)
    ∙ parts-front (n + 1) given x rest
    ∙ ap (λ k. parts_at k (x ∷ []) rest) further

parts-row : (m : ℕ) (x : Item) (rest : List Item) (end : Option RecordFault)
    → parts_at m (x ∷ []) rest ≡ cond (same_row (Some (rows.Item x)) (Some (first_row rest end))) None (Some m)
parts-row m x [] None = refl
parts-row m x [] (Some f) = refl
parts-row m x (z ∷ rest) end = refl

-- ---- the row behind given items

pub follows : (given rest : List Item) (copy : List ℕ) → given ++ rest ≡ items_in copy
    → row_at (length given) copy ≡ first_row rest (fault_in copy)
follows given rest copy e =
    ap (λ xs. first_row (drop (length given) xs) (fault_in copy)) (sym e)
    ∙ ap (λ xs. first_row xs (fault_in copy)) (drop_at given rest (length given) refl)

-- a copy that begins with the items given parts from them and an item by its row
pub parts-next : (given : List Item) (x : Item) (copy : List ℕ) → IsPrefix given (items_in copy)
    → parts_at 0 (given ++ x ∷ []) (items_in copy)
    ≡ cond (same_row (Some (rows.Item x)) (Some (row_at (length given) copy))) None (Some (length given))
parts-next given x copy p =
    ap (λ xs. parts_at 0 (given ++ x ∷ []) xs) (sym p.1) ∙ parts-front 0 given x p.0
    ∙ ap (λ k. parts_at k (x ∷ []) p.0) (zero-add (length given)) ∙ parts-row (length given) x p.0 (fault_in copy)
    ∙ ap (λ r. cond (same_row (Some (rows.Item x)) (Some r)) None (Some (length given))) (sym (follows given p.0 copy p.1))

-- the row of a copy that begins with the items given
abbrev pub row_behind : List Item → List ℕ → Option Row
row_behind given copy = cond (begins_with given (items_in copy)) (Some (row_at (length given) copy)) None

pub same-begins : (given : List Item) (x : Item) (copy : List ℕ)
    → same_row (Some (rows.Item x)) (row_behind given copy) ≡ begins_with (given ++ x ∷ []) (items_in copy)
same-begins given x copy = by (begins_with given (items_in copy)) refl
  where
    at : (s : Bool) → s ≡ is_none (cond s None (Some (length given)))
    at true = refl
    at false = refl

    by : (b : Bool) → begins_with given (items_in copy) ≡ b
        → same_row (Some (rows.Item x)) (cond b (Some (row_at (length given) copy)) None) ≡ begins_with (given ++ x ∷ []) (items_in copy)
    by true e =
        at (same_row (Some (rows.Item x)) (Some (row_at (length given) copy)))
        ∙ ap (λ o. is_none o) (sym (parts-next given x copy (begins-is_known given (items_in copy) e)))
        ∙ sym (begins-parts 0 (given ++ x ∷ []) (items_in copy))
    by false e = sym (false_from_ne_true (begins_with (given ++ x ∷ []) (items_in copy))
        (λ yes. let no : false ≡ true = sym e ∙ begins-shorter given (x ∷ []) (items_in copy) yes in absurd cc))

-- equal rows are one
pub same-is : (row other : Option Row) → same_row row other ≡ true → row ≡ other
same-is (Some (rows.Item x)) (Some (rows.Item y)) e = ap (λ z. Some (rows.Item z)) ((item_decides x y).0 e)
same-is (Some rows.Whole) (Some rows.Whole) e = refl
same-is (Some (rows.Item x)) (Some rows.Whole) e = absurd cc
same-is (Some (rows.Item x)) (Some (rows.Fault f)) e = absurd cc
same-is (Some (rows.Item x)) None e = absurd cc
same-is (Some rows.Whole) (Some (rows.Item y)) e = absurd cc
same-is (Some rows.Whole) (Some (rows.Fault f)) e = absurd cc
same-is (Some rows.Whole) None e = absurd cc
same-is (Some (rows.Fault f)) other e = absurd cc
same-is None other e = absurd cc

-- the row after the given items equals itself if the record is sound
pub sound-row : (rest : List Item) → same_row (Some (first_row rest None)) (Some (first_row rest None)) ≡ true
sound-row [] = refl
sound-row (x ∷ rest) = equal-items x
