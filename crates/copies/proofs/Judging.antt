-- The first row in which not all copies hold an equal item decides.
use Rattle.std.proofs.Common.{◌≡◌, ◌+◌, ◌-◌, ℕ, List, [], ◌∷◌, ◌++◌, map, length, drop, Bool, true, false, cond, Option, Some, None}
use Rattle.std.proofs.Common.{refl, sym, ap, subst, ◌∙◌, append_assoc}
use Rattle.std.proofs.lemmas.List.{append-nil, drop_at}
use Rattle.std.specs.Option.{option_map, option_or}
use Rattle.std.specs.Bool.{Decides}
use Rattle.std.specs.List.{AllByRecursion}
use Rattle.det_io.specs.Prefix.{IsPrefix}
use Rattle.det_io.proofs.Prefixes.{prefix-none, prefix-same, prefix-then}
use Rattle.det_values.specs.contracts.profile.ProfilePartialEq.TheImpl as profile
use Rattle.det_values.proofs.Equality.{profile_decides}
use Rattle.record_grammar.specs.declared.item.Item.{Item}
use Rattle.record_grammar.specs.declared.item.Item.TheVariants as items
use Rattle.record_grammar.specs.contracts.item.ItemPartialEq.TheImpl as item
use Rattle.record_grammar.specs.Record.{items as items_in, fault as fault_in}
use Rattle.copies.specs.declared.difference.Difference.{Difference}
use Rattle.copies.specs.declared.difference.Difference.TheVariants as differences
use Rattle.copies.specs.declared.row.Row.{Row}
use Rattle.copies.specs.declared.row.Row.TheVariants as rows
use Rattle.copies.specs.declared.verdict.Verdict.{Verdict}
use Rattle.copies.specs.declared.verdict.Verdict.TheVariants.{Differ}
use Rattle.copies.specs.Rows.{first_row, row_at}
use Rattle.copies.specs.Verdict.{row_difference, first_bad, first_other, row_verdict, shared, shared_by, verdict}
use Rattle.copies.proofs.Equality.{item_decides}
use Rattle.copies.proofs.FirstDifference.{IsNoneIfSame, frame-apart}

-- ---- one row

-- a row differs from an item exactly where it isn't that item
pub item-apart : (n : ℕ) (x : Item) (row : Row) → IsNoneIfSame (row_difference n (rows.Item x) row) (rows.Item x) row
item-apart n (items.Header p) (rows.Item (items.Header q)) = by (profile.eq-value.it p q) (profile_decides p q)
  where
    by : (r : Bool) → Decides r (p ≡ q)
        → IsNoneIfSame (cond r None (Some differences.Header)) (rows.Item (items.Header p)) (rows.Item (items.Header q))
    by true h = (λ e. ap (λ x. rows.Item (items.Header x)) (h.0 refl), λ e. refl)
    by false h = (λ e. absurd cc, λ e. let no : false ≡ true = h.1 (cc) in absurd cc)
item-apart n (items.Frame f) (rows.Item (items.Frame g)) =
    let h = frame-apart (n - 1) f g in (λ e. ap (λ x. rows.Item (items.Frame x)) (h.0 e), λ e. h.1 (cc))
item-apart n (items.Header p) (rows.Item (items.Frame g)) = (λ e. absurd cc, λ e. absurd cc)
item-apart n (items.Frame f) (rows.Item (items.Header q)) = (λ e. absurd cc, λ e. absurd cc)
item-apart n (items.Header p) rows.Whole = (λ e. absurd cc, λ e. absurd cc)
item-apart n (items.Frame f) rows.Whole = (λ e. absurd cc, λ e. absurd cc)
item-apart n (items.Header p) (rows.Fault q) = (λ e. absurd cc, λ e. absurd cc)
item-apart n (items.Frame f) (rows.Fault q) = (λ e. absurd cc, λ e. absurd cc)

pub whole-apart : (n : ℕ) (row : Row) → row_difference n rows.Whole row ≡ None → row ≡ rows.Whole
whole-apart n rows.Whole e = refl
whole-apart n (rows.Item (items.Header p)) e = absurd cc
whole-apart n (rows.Item (items.Frame f)) e = absurd cc
whole-apart n (rows.Fault q) e = absurd cc

-- ---- all rows of one number

-- where no other row differs, each has no difference
pub none-other : (n : ℕ) (row : Row) (copy : ℕ) (more : List Row) → first_other n row copy more ≡ None
    → AllByRecursion (λ r. row_difference n row r ≡ None) more
none-other n row copy [] e = tt
none-other n row copy (r ∷ more) e = let p = part (row_difference n row r) (first_other n row (copy + 1) more) e in
    (p.0, none-other n row (copy + 1) more p.1)
  where
    part : (o : Option Difference) (rest : Option Verdict) → option_or (option_map (Differ copy) o) rest ≡ None → (o ≡ None) × (rest ≡ None)
    part (Some x) rest e = absurd cc
    part None rest e = (refl, e)

-- equal items don't decide
pub goes-on : (n : ℕ) (x : Item) (copy : ℕ) (more : List Row) → AllByRecursion (λ r. r ≡ rows.Item x) more
    → (first_bad copy more ≡ None) × (first_other n (rows.Item x) copy more ≡ None)
goes-on n x copy [] all = (refl, refl)
goes-on n x copy (r ∷ more) all =
    let rest = goes-on n x (copy + 1) more all.1 in (
      ap (λ row. first_bad copy (row ∷ more)) all.0 ∙ rest.0,
      ap (λ o. option_or (option_map (Differ copy) o) (first_other n (rows.Item x) (copy + 1) more))
          ((item-apart n x r).1 (sym all.0)) ∙ rest.1,
    )

-- ---- the items with which all copies begin

shared-first : (x y : Item) (xs ys : List Item) → x ≡ y → shared (x ∷ xs) (y ∷ ys) ≡ x ∷ shared xs ys
shared-first x y xs ys e = ap (λ r. cond r (x ∷ shared xs ys) []) ((item_decides x y).1 e)

shared-left : (xs ys : List Item) → IsPrefix (shared xs ys) xs
shared-left [] ys = prefix-none []
shared-left (x ∷ xs) [] = prefix-none (x ∷ xs)
shared-left (x ∷ xs) (y ∷ ys) = by (item.eq-value.it x y) (shared-left xs ys)
  where
    by : (r : Bool) → IsPrefix (shared xs ys) xs → IsPrefix (cond r (x ∷ shared xs ys) []) (x ∷ xs)
    by true p = (p.0, ap (λ l. x ∷ l) p.1)
    by false p = prefix-none (x ∷ xs)

shared-right : (xs ys : List Item) → IsPrefix (shared xs ys) ys
shared-right [] ys = prefix-none ys
shared-right (x ∷ xs) [] = prefix-none []
shared-right (x ∷ xs) (y ∷ ys) = by (item.eq-value.it x y) (item_decides x y) (shared-right xs ys)
  where
    by : (r : Bool) → Decides r (x ≡ y) → IsPrefix (shared xs ys) ys → IsPrefix (cond r (x ∷ shared xs ys) []) (y ∷ ys)
    by true h p = (p.0, ap (λ l. l ∷ (shared xs ys ++ p.0)) (h.0 refl) ∙ ap (λ l. y ∷ l) p.1)
    by false h p = prefix-none (y ∷ ys)

shared-most : (given xs ys : List Item) → IsPrefix given xs → IsPrefix given ys → IsPrefix given (shared xs ys)
shared-most [] xs ys p q = prefix-none (shared xs ys)
shared-most (g ∷ given) [] ys p q = let e : g ∷ (given ++ p.0) ≡ [] = p.1 in absurd cc
shared-most (g ∷ given) (x ∷ xs) [] p q = let e : g ∷ (given ++ q.0) ≡ [] = q.1 in absurd cc
shared-most (g ∷ given) (x ∷ xs) (y ∷ ys) p q =
    let d : g ∷ (given ++ p.0) ≡ x ∷ xs = p.1 in
    let e : g ∷ (given ++ q.0) ≡ y ∷ ys = q.1 in
    let a : g ≡ x = cc in
    let b : x ≡ y = cc in
    let rest = shared-most given xs ys (p.0, cc) (q.0, cc) in
    (rest.0, ap (λ l. l ∷ (given ++ rest.0)) a ∙ ap (λ l. x ∷ l) rest.1 ∙ sym (shared-first x y xs ys b))

pub shared_by-left : (given : List Item) (copies : List (List ℕ)) → IsPrefix (shared_by given copies) given
shared_by-left given [] = prefix-same given
shared_by-left given (c ∷ copies) =
    prefix-then (shared_by (shared given (items_in c)) copies) (shared given (items_in c)) given
    (shared_by-left (shared given (items_in c)) copies) (shared-left given (items_in c))

pub shared_by-each : (given : List Item) (copies : List (List ℕ))
    → AllByRecursion (λ c. IsPrefix (shared_by given copies) (items_in c)) copies
shared_by-each given [] = tt
shared_by-each given (c ∷ copies) = (
  prefix-then (shared_by (shared given (items_in c)) copies) (shared given (items_in c)) (items_in c)
      (shared_by-left (shared given (items_in c)) copies) (shared-right given (items_in c)),
  shared_by-each (shared given (items_in c)) copies,
)

pub shared_by-most : (given xs : List Item) (copies : List (List ℕ)) → IsPrefix given xs
    → AllByRecursion (λ c. IsPrefix given (items_in c)) copies
    → IsPrefix given (shared_by xs copies)
shared_by-most given xs [] p all = p
shared_by-most given xs (c ∷ copies) p all =
    shared_by-most given (shared xs (items_in c)) copies (shared-most given xs (items_in c) p all.0) all.1

-- ---- the row after them

row-of-item : (given rest : List Item) (x : Item) (copy : List ℕ) → IsPrefix (given ++ x ∷ rest) (items_in copy)
    → row_at (length given) copy ≡ rows.Item x
row-of-item given rest x copy p =
    ap (λ xs. first_row (drop (length given) xs) (fault_in copy)) (sym p.1 ∙ append_assoc given (x ∷ rest) p.0)
    ∙ ap (λ xs. first_row xs (fault_in copy)) (drop_at given ((x ∷ rest) ++ p.0) (length given) refl)

rows-of-item : (given rest : List Item) (x : Item) (copies : List (List ℕ))
    → AllByRecursion (λ c. IsPrefix (given ++ x ∷ rest) (items_in c)) copies
    → AllByRecursion (λ r. r ≡ rows.Item x) (map (row_at (length given)) copies)
rows-of-item given rest x [] all = tt
rows-of-item given rest x (c ∷ copies) all = (row-of-item given rest x c all.0, rows-of-item given rest x copies all.1)

-- a row that decides: it has a fault or a difference, or all are at the end
abbrev pub IsDecided : ℕ → Row → List Row → Type 0
IsDecided n ours more = (x : Item) → ours ≡ rows.Item x → first_bad 1 more ≡ None → first_other n ours 1 more ≡ None → ⊥

shared-is : (given : List Item) (first : List ℕ) (others : List (List ℕ)) → IsPrefix given (items_in first)
    → AllByRecursion (λ c. IsPrefix given (items_in c)) others
    → IsDecided (length given) (row_at (length given) first) (map (row_at (length given)) others)
    → shared_by (items_in first) others ≡ given
shared-is given first others p all decided = by (shared_by (items_in first) others) most.0 most.1 refl
  where
    most : IsPrefix given (shared_by (items_in first) others)
    most = shared_by-most given (items_in first) others p all

    by : (s rest : List Item) → given ++ rest ≡ s → shared_by (items_in first) others ≡ s → s ≡ given
    by s [] e f = sym e ∙ append-nil given
    by s (x ∷ rest) e f =
        let is : shared_by (items_in first) others ≡ given ++ x ∷ rest = f ∙ sym e in
        let row = row-of-item given rest x first (subst (λ l. IsPrefix l (items_in first)) is (shared_by-left (items_in first) others)) in
        let more = rows-of-item given rest x others
        (subst (λ l. AllByRecursion (λ c. IsPrefix l (items_in c)) others) is (shared_by-each (items_in first) others)) in
        let on = goes-on (length given) x 1 (map (row_at (length given)) others) more in
        absurd (decided x row on.0 (subst (λ r. first_other (length given) r 1 (map (row_at (length given)) others) ≡ None) (sym row) on.1))

-- the verdict where a row decides
pub verdict-is : (given : List Item) (first : List ℕ) (others : List (List ℕ)) → IsPrefix given (items_in first)
    → AllByRecursion (λ c. IsPrefix given (items_in c)) others
    → IsDecided (length given) (row_at (length given) first) (map (row_at (length given)) others)
    → verdict (first ∷ others) ≡ row_verdict given (map (row_at (length given)) (first ∷ others))
verdict-is given first others p all decided =
    ap (λ xs. row_verdict xs (map (row_at (length xs)) (first ∷ others))) (shared-is given first others p all decided)
