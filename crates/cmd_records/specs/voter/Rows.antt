-- Copies that are in step or have left, and the rows that they hold.
use Rattle.std.specs.Prelude.{◌≡◌, ℕ, ◌+◌, ◌<◌, List, [], ◌∷◌, length, get_or, Bool, true}
use Rattle.std.specs.Prelude.{false, cond, map, take, Option, Some, None, Result, Ok, Err, is_none}
use Rattle.std.specs.List.{count_by, Contains}
use Rattle.std.specs.Option.{option_or}
use Rattle.det_io.specs.Shelf.{ShelfState}
use Rattle.det_io.specs.declared.failure.Failure.{Failure}
use Rattle.det_io.specs.declared.failure.Failure.TheVariants.{Read, Write, OutOfMemory}
use Rattle.det_io.specs.declared.failure.Stopped.{Stopped}
use Rattle.det_io.specs.declared.failure.Stopped.TheVariants.{Refused, Failed}
use Rattle.record_grammar.specs.declared.record_fault.RecordFault.{RecordFault}
use Rattle.record_grammar.specs.declared.place.Place.{Place}
use Rattle.record_grammar.specs.declared.place.Place.TheVariants as places
use Rattle.record_grammar.specs.declared.item.Item.{Item}
use Rattle.record_grammar.specs.contracts.item.ItemPartialEq.TheImpl as item
use Rattle.record_grammar.specs.Places.{after}
use Rattle.record_grammar.specs.Record.{items as items_in}
use Rattle.record_view.specs.declared.view.ItemView.{ItemView}
use Rattle.record_reader.specs.declared.item_reader.reader.ItemReader.{ItemReader}
use Rattle.record_reader.specs.item_reader.StandsFor.{Holds, slot_of}
use Rattle.copies.specs.declared.row.Row.{Row}
use Rattle.copies.specs.declared.row.Row.TheVariants as rows
use Rattle.copies.specs.ItemRows.{IsReaderAfter, ReaderAtRow}
use Rattle.copies.specs.Needed.{GaveNeeded}
use Rattle.cmd_records.specs.declared.voter.majority.Holders.{Holders}
use Rattle.cmd_records.specs.declared.voter.voter_rows.RowView.{RowView}
use Rattle.cmd_records.specs.declared.voter.voter_rows.RowView.TheVariants as views
use Rattle.cmd_records.specs.declared.voter.voter_rows.Voter.{Voter}
use Rattle.cmd_records.specs.voter.Majority.{is_most}
use Rattle.cmd_records.specs.voter.VoteResult.{ShowsRows}

-- ---- rows

-- whether two copies hold equal rows; a fault equals nothing, and a copy that left holds no row
abbrev pub same_row : Option Row → Option Row → Bool
same_row (Some (rows.Item x)) (Some (rows.Item y)) = item.eq-value.it x y
same_row (Some rows.Whole) (Some rows.Whole) = true
same_row row other = false

-- whether more than half of all rows equal this one
abbrev pub is_held : List (Option Row) → Option Row → Bool
is_held all row = is_most (count_by (same_row row) all) (length all)

-- the copies whose rows equal this one
pub record AreHolders (holders : Holders) (row : Option Row) (all : List (Option Row))
    : Type 0 where
  pub same : take (length all) holders.same ≡ map (same_row row) all
  pub count : holders.count ≡ count_by (same_row row) all

-- the first holder's row is held by more than half of the copies, or no row is
abbrev pub MostHeld : Option Holders → List (Option Row) → Type 0
MostHeld (Some holders) all = (holders.first < length all)
    × AreHolders holders (get_or all holders.first None) all
    × (is_held all (get_or all holders.first None) ≡ true)
MostHeld None all = (k : ℕ) → k < length all → is_held all (get_or all k None) ≡ false

-- ---- copies

abbrev pub is_in_step : Voter → Bool
is_in_step voter = is_none voter.left

abbrev pub voter_slot : Voter → ℕ
voter_slot voter = slot_of voter.reader

-- the number of the first of these items with which a list doesn't begin, counted on from n
abbrev pub parts_at : ℕ → (given all : List Item) → Option ℕ
parts_at n [] all = None
parts_at n (x ∷ given) [] = Some n
parts_at n (x ∷ given) (y ∷ all) =
    cond (item.eq-value.it x y) (parts_at (n + 1) given all) (Some n)

-- a copy that left in this row, before the end of the given items
pub record HasLeft (first now : ShelfState) (given : List Item) (slot : ℕ) (reader : ItemReader)
    (row : ℕ) : Type 0 where
  pub at : slot_of reader ≡ slot
  pub told : (copy : List ℕ) → first.left slot ≡ Some copy
      → parts_at 0 given (items_in copy) ≡ Some row
  pub needed : GaveNeeded first now (length given) slot

-- a copy that gave these items, or left before them
abbrev pub VoterIs : Option ℕ → ShelfState → ShelfState → List Item → ℕ → ItemReader → Type 0
VoterIs None first now given slot reader = IsReaderAfter first now given slot reader
VoterIs (Some row) first now given slot reader = HasLeft first now given slot reader row

-- the same for all copies, one for each slot
abbrev pub AreVoters : ShelfState → ShelfState → List Item → List ℕ → List Voter → Type 0
AreVoters first now given [] [] = Unit {0}
AreVoters first now given (slot ∷ slots) (v ∷ voters) =
    VoterIs v.left first now given slot v.reader × AreVoters first now given slots voters
AreVoters first now given slots voters = ⊥

-- a copy in step gave these items and then a row; a copy that left gives no row
abbrev pub VoteIs : Option ℕ → Option Row → ShelfState → ShelfState → List Item → ℕ
    → ItemReader → Type 0
VoteIs None (Some row) first now given slot reader = ReaderAtRow first now given slot reader row
VoteIs (Some left) None first now given slot reader = HasLeft first now given slot reader left
VoteIs left row first now given slot reader = ⊥

-- the same for all copies
abbrev pub HaveVotes : ShelfState → ShelfState → List Item → List ℕ → List Voter
    → List (Option Row) → Type 0
HaveVotes first now given [] [] [] = Unit {0}
HaveVotes first now given (slot ∷ slots) (v ∷ voters) (row ∷ more) =
    VoteIs v.left row first now given slot v.reader × HaveVotes first now given slots voters more
HaveVotes first now given slots voters more = ⊥

-- ---- rows that are held

-- the place after items that begin at a place, and after the first items of a record
abbrev pub place_after : Place → List Item → Place
place_after place [] = place
place_after place (x ∷ xs) = place_after (after place x) xs

abbrev pub place_behind : List Item → Place
place_behind given = place_after places.Header given

-- a reader holds this item, at this place
pub record HoldsAt (place : Place) (reader : ItemReader) (view : ItemView) (x : Item) : Type 0 where
  pub holds : Holds reader view x
  pub at : view.place ≡ place

-- a row as it was read, by a reader at this place
abbrev pub HoldsAs : Option RowView → Place → ItemReader → Option Row → Type 0
HoldsAs (Some (views.Item view)) place reader (Some (rows.Item x)) = HoldsAt place reader view x
HoldsAs (Some views.Whole) place reader (Some rows.Whole) = Unit {0}
HoldsAs (Some views.Fault) place reader (Some (rows.Fault found)) = Unit {0}
HoldsAs None place reader None = Unit {0}
HoldsAs view place reader row = ⊥

-- the same for a copy, and for all copies
abbrev pub HoldsRow : Place → Voter → Option Row → Type 0
HoldsRow place v row = HoldsAs v.row place v.reader row

abbrev pub AreHeld : Place → List Voter → List (Option Row) → Type 0
AreHeld place [] [] = Unit {0}
AreHeld place (v ∷ voters) (row ∷ more) = HoldsRow place v row × AreHeld place voters more
AreHeld place voters more = ⊥

-- ---- answers

-- the row of what a reader returned
abbrev pub view_answer : Result (Option ItemView) (Stopped RecordFault) → Result RowView Failure
view_answer (Ok (Some view)) = Ok (views.Item view)
view_answer (Ok None) = Ok views.Whole
view_answer (Err (Refused found)) = Ok views.Fault
view_answer (Err (Failed failure)) = Err failure

-- Why a slot gave no row after the given items. If a read failed, all that was read of the slot
-- shows these items and no more.
abbrev pub FailedAt : Failure → ShelfState → ShelfState → List Item → ℕ → Type 0
FailedAt Read first now given slot = ShowsRows first now given slot
FailedAt Write first now given slot = ⊥
FailedAt OutOfMemory first now given slot = Unit {0}

-- the same for one of several slots
abbrev pub FailedAmong : Failure → ShelfState → ShelfState → List Item → List ℕ → Type 0
FailedAmong failure first now given slots =
    (slot : ℕ) × Contains slots slot × FailedAt failure first now given slot

abbrev pub RowGiven : Result RowView Failure → ShelfState → ShelfState → List Item → ℕ
    → ItemReader → Type 0
RowGiven (Ok view) first now given slot reader = (row : Row)
    × ReaderAtRow first now given slot reader row
    × HoldsAs (Some view) (place_behind given) reader (Some row)
RowGiven (Err failure) first now given slot reader =
    FailedAt failure first now given slot

abbrev pub ReadIs : Result (Unit {0}) Failure → ShelfState → ShelfState → List Item → ℕ → Voter
    → Type 0
ReadIs (Ok u) first now given slot v = (row : Option Row)
    × VoteIs v.left row first now given slot v.reader × HoldsRow (place_behind given) v row
ReadIs (Err failure) first now given slot v = FailedAt failure first now given slot

abbrev pub RowsRead : Result (Unit {0}) Failure → ShelfState → ShelfState → List Item → List ℕ
    → List Voter → Type 0
RowsRead (Ok u) first now given slots voters = (more : List (Option Row))
    × HaveVotes first now given slots voters more × AreHeld (place_behind given) voters more
RowsRead (Err failure) first now given slots voters =
    FailedAmong failure first now given slots

-- a copy stays in step, or leaves in this row unless it left before
abbrev pub voter_after : Bool → ℕ → Voter → Voter
voter_after holds number v =
    record v { left = cond holds v.left (option_or v.left (Some number)) }

-- the copies that don't hold a row leave
abbrev pub voters_after : ℕ → List Bool → List Voter → List Voter
voters_after number (b ∷ same) (v ∷ voters) = voter_after b number v ∷ voters_after number same
    voters
voters_after number same voters = []
