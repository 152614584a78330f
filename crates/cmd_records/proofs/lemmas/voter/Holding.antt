-- Rows that are held, and the items in the bytes that readers hold.
use Rattle.std.proofs.Common.{◌≡◌, ◌<◌, ◌≤◌, ◌+◌, ℕ, zero, suc, Bool, true, cond, List, [], ◌∷◌, map, length, take, get_or, set, Option}
use Rattle.std.proofs.Common.{Some, None, refl, sym, ap, subst, ◌∙◌, arith}
use Rattle.std.specs.List.{count_by}
use Rattle.std.specs.Prelude.{◌↔◌, IsTrue}
use Rattle.std.proofs.lemmas.List.{take_all, take_more}
use Rattle.std.proofs.lemmas.List.Sums.{sum_by_push}
use Rattle.std.proofs.lemmas.Bool.Decides.{same_from_decides}
use Rattle.record_grammar.specs.declared.record_fault.RecordFault.{RecordFault}
use Rattle.record_grammar.specs.declared.place.Place.{Place}
use Rattle.record_grammar.specs.declared.item.Item.{Item}
use Rattle.record_grammar.specs.contracts.item.ItemPartialEq.TheImpl as item
use Rattle.record_grammar.specs.Laws.{MayStand, item_spelling}
use Rattle.record_grammar.specs.Spelling.{AreBytes}
use Rattle.record_view.specs.declared.view.ItemView.{ItemView}
use Rattle.record_view.specs.Shows.{IsSpelling, events_of}
use Rattle.record_view.proofs.EqualItems.{span_is_spelling}
use Rattle.record_reader.specs.declared.item_reader.reader.ItemReader.{ItemReader}
use Rattle.copies.specs.declared.row.Row.{Row}
use Rattle.copies.specs.declared.row.Row.TheVariants as rows
use Rattle.copies.proofs.Equality.{item_decides}
use Rattle.cmd_records.specs.declared.voter.majority.Holders.{Holders}
use Rattle.cmd_records.specs.declared.voter.voter_rows.RowView.{RowView}
use Rattle.cmd_records.specs.declared.voter.voter_rows.RowView.TheVariants as views
use Rattle.cmd_records.specs.declared.voter.voter_rows.Voter.{Voter}
use Rattle.cmd_records.specs.voter.Majority.{is_most}
use Rattle.cmd_records.specs.voter.Rows.{HoldsAt, HoldsAs, HoldsRow, AreHeld, AreHolders, same_row, is_held}

-- ---- one row

pub held-item : (view : ItemView) (place : Place) (reader : ItemReader) (row : Option Row)
    → HoldsAs (Some (views.Item view)) place reader row → (x : Item) × (row ≡ Some (rows.Item x)) × HoldsAt place reader view x
held-item view place reader (Some (rows.Item x)) h = (x, refl, h)
held-item view place reader (Some rows.Whole) h = absurd h
held-item view place reader (Some (rows.Fault f)) h = absurd h
held-item view place reader None h = absurd h

-- a row that was read is an item
pub read-item : {read : Option RowView} {view : ItemView} {place : Place} {reader : ItemReader} {row : Option Row}
    → read ≡ Some (views.Item view) → HoldsAs read place reader row
    → (x : Item) × (row ≡ Some (rows.Item x)) × HoldsAt place reader view x
read-item {view = view} {place = place} {reader = reader} {row = row} is h =
    held-item view place reader row (subst (λ (o : Option RowView). HoldsAs o place reader row) is h)

pub held-whole : (place : Place) (reader : ItemReader) (row : Option Row) → HoldsAs (Some views.Whole) place reader row
    → row ≡ Some rows.Whole
held-whole place reader (Some (rows.Item x)) h = absurd h
held-whole place reader (Some rows.Whole) h = refl
held-whole place reader (Some (rows.Fault f)) h = absurd h
held-whole place reader None h = absurd h

pub held-fault : (place : Place) (reader : ItemReader) (row : Option Row) → HoldsAs (Some views.Fault) place reader row
    → (f : RecordFault) × (row ≡ Some (rows.Fault f))
held-fault place reader (Some (rows.Item x)) h = absurd h
held-fault place reader (Some rows.Whole) h = absurd h
held-fault place reader (Some (rows.Fault f)) h = (f, refl)
held-fault place reader None h = absurd h

pub held-none : (place : Place) (reader : ItemReader) (row : Option Row) → HoldsAs None place reader row → row ≡ None
held-none place reader (Some (rows.Item x)) h = absurd h
held-none place reader (Some rows.Whole) h = absurd h
held-none place reader (Some (rows.Fault f)) h = absurd h
held-none place reader None h = refl

-- an item equals itself
pub itself-item : (view : ItemView) (place : Place) (reader : ItemReader) (row : Option Row)
    → HoldsAs (Some (views.Item view)) place reader row → true ≡ same_row row row
itself-item view place reader row h = let x = held-item view place reader row h in rw x.1 (sym ((item_decides x.0 x.0).1 refl))

-- ---- items by their bytes

pub all-taken : (n : ℕ) (bytes : List ℕ) → length bytes ≡ n → take n bytes ≡ bytes
all-taken n bytes e = take_all n bytes (omega (arith, e))

-- what decides whether two items are equal is their comparison
pub same-items : (x y : Item) (r : Bool) → IsTrue r ↔ (x ≡ y) → r ≡ item.eq-value.it x y
same-items x y r same = same_from_decides r (item.eq-value.it x y) (same.0, same.1) (item_decides x y)

-- an item's bytes are its one spelling
pub spelled-at : (place : Place) (reader : ItemReader) (view : ItemView) (x : Item) (bytes : List ℕ) → HoldsAt place reader view x
    → IsSpelling view x bytes → events_of view.place ≤ 65536 → AreBytes bytes → MayStand place x × (bytes ≡ item_spelling place x)
spelled-at place reader view x bytes h p few are =
    let s = span_is_spelling view.place view.span bytes x few are p.shows in
    subst (λ (at : Place). MayStand at x × (bytes ≡ item_spelling at x)) h.at
    (s.0, sym (all-taken view.span.len bytes p.exact) ∙ s.1)

-- ---- the rows of all copies

pub held-many : (place : Place) (voters : List Voter) (more : List (Option Row)) → AreHeld place voters more → length voters ≡ length more
held-many place [] [] h = refl
held-many place [] (row ∷ more) h = absurd h
held-many place (v ∷ voters) [] h = absurd h
held-many place (v ∷ voters) (row ∷ more) h = let n = held-many place voters more h.1 in omega (arith, n)

pub held-at : (place : Place) (voters : List Voter) (more : List (Option Row)) (k : ℕ) (d : Voter) → AreHeld place voters more
    → k < length voters → HoldsRow place (get_or voters k d) (get_or more k None)
held-at place [] more k d h less = absurd (omega (arith, less))
held-at place (v ∷ voters) [] k d h less = absurd h
held-at place (v ∷ voters) (row ∷ more) zero d h less = h.0
held-at place (v ∷ voters) (row ∷ more) (suc k) d h less = held-at place voters more k d h.1 (omega (arith, less))

-- the copy that was found at an index
pub held-here : (place : Place) (voters : List Voter) (more : List (Option Row)) (k : ℕ) (v : Voter) → AreHeld place voters more
    → k < length voters → get_or voters k v ≡ v → HoldsRow place v (get_or more k None)
held-here place voters more k v h less is =
    subst (λ (w : Voter). HoldsRow place w (get_or more k None)) is (held-at place voters more k v h less)

-- ---- the holders of a row

flags-suc : (f : Option Row → Bool) (same : List Bool) (more : List (Option Row)) (at : ℕ) (b : Bool) → at < length same
    → at < length more → take at same ≡ map f (take at more) → b ≡ f (get_or more at None)
    → take (suc at) (set same at b) ≡ map f (take (suc at) more)
flags-suc f [] more at b few less e is = absurd (omega (arith, few))
flags-suc f (s ∷ same) [] at b few less e is = absurd (omega (arith, less))
flags-suc f (s ∷ same) (m ∷ more) zero b few less e is = ap (λ x. x ∷ []) is
flags-suc f (s ∷ same) (m ∷ more) (suc at) b few less e is =
    let head : s ≡ f m = cc in
    let tail : take at same ≡ map f (take at more) = cc in
    ap (λ x. x ∷ take (suc at) (set same at b)) head
    ∙ ap (λ xs. f m ∷ xs) (flags-suc f same more at b (omega (arith, few)) (omega (arith, less)) tail is)

-- one copy more was looked at
pub flags-next : (f : Option Row → Bool) (same : List Bool) (more : List (Option Row)) (at : ℕ) (b : Bool) → at < length same
    → at < length more → take at same ≡ map f (take at more) → b ≡ f (get_or more at None)
    → take (at + 1) (set same at b) ≡ map f (take (at + 1) more)
flags-next f same more at b few less e is =
    let next : suc at ≡ at + 1 = omega arith in
    subst (λ (n : ℕ). take n (set same at b) ≡ map f (take n more)) next (flags-suc f same more at b few less e is)

pub count-next : (f : Option Row → Bool) (more : List (Option Row)) (at count one : ℕ) → at < length more
    → count ≡ count_by f (take at more) → one ≡ cond (f (get_or more at None)) 1 0 → count + one ≡ count_by f (take (at + 1) more)
count-next f more at count one less e is =
    let step = ap (count_by f) (take_more more at None less)
    ∙ sum_by_push (λ r. cond (f r) 1 0) (take at more) (get_or more at None) in
    ap (λ n. n + one) e ∙ ap (λ n. count_by f (take at more) + n) is ∙ sym step

pub holders-done : (holders : Holders) (row : Option Row) (more : List (Option Row)) (at : ℕ) → at ≡ length more
    → take at holders.same ≡ map (same_row row) (take at more) → holders.count ≡ count_by (same_row row) (take at more)
    → AreHolders holders row more
holders-done holders row more at e same count =
    let all : take at more ≡ more = take_all at more (omega (arith, e)) in record {
      same = subst (λ (n : ℕ). take n holders.same ≡ map (same_row row) more) e (same ∙ ap (map (same_row row)) all);
      count = count ∙ ap (count_by (same_row row)) all;
    }

-- the number of holders decides
pub held-by : (holders : Holders) (row : Option Row) (more : List (Option Row)) (many : ℕ) (r : Bool) → AreHolders holders row more
    → many ≡ length more → is_most holders.count many ≡ r → is_held more row ≡ r
held-by holders row more many r h e is =
    subst (λ (n : ℕ). is_most (count_by (same_row row) more) n ≡ r) e (subst (λ (n : ℕ). is_most n many ≡ r) h.count is)
