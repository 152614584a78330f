-- What a reader knows of the bytes that it read and of the items that it returned.
use Rattle.std.specs.Prelude.{◌≡◌, ℕ, ◌+◌, ◌<◌, ◌⊎◌, List, [], ◌∷◌, ◌++◌, length, drop, Option}
use Rattle.std.specs.Prelude.{Some, None, Result, Ok, Err}
use Rattle.det_io.specs.Shelf.{ShelfState, Reads}
use Rattle.det_io.specs.declared.failure.Failure.TheVariants.{Read, Write, OutOfMemory}
use Rattle.det_io.specs.declared.failure.Stopped.{Stopped}
use Rattle.det_io.specs.declared.failure.Stopped.TheVariants.{Refused, Failed}
use Rattle.record_grammar.specs.declared.record_fault.Reason.TheVariants.{Truncated}
use Rattle.record_grammar.specs.declared.record_fault.RecordFault.{RecordFault}
use Rattle.record_grammar.specs.declared.place.Place.{Place}
use Rattle.record_grammar.specs.declared.place.Place.TheVariants as places
use Rattle.record_grammar.specs.declared.item.Item.{Item}
use Rattle.record_grammar.specs.Places.{may_come}
use Rattle.record_grammar.specs.Record.{items as items_in, fault as fault_in, fault_so_far}
use Rattle.record_grammar.specs.Leads.{Leads}
use Rattle.record_grammar.specs.Spelling.{AreBytes}
use Rattle.record_view.specs.declared.view.ItemView.{ItemView}
use Rattle.record_view.specs.Shows.{Shows}
use Rattle.record_view.specs.Scans.{IsScan}
use Rattle.record_reader.specs.declared.item_reader.reader.ItemReader.{ItemReader}
use Rattle.record_reader.specs.item_reader.Held.{held}
use Rattle.record_reader.specs.item_reader.Needed.{ReadsWhile}

-- the bytes that were read and belong to no returned item
abbrev pub unread : ItemReader → List ℕ
unread r = drop r.last (held r.window)

-- these bytes were read, these items returned, and no fault was found
pub record StandsFor (r : ItemReader) (read : List ℕ) (given : List Item) : Type 0 where
  pub leads : Leads places.Header read given r.place (unread r)
  pub scan : IsScan r.place r.scan (unread r)
  pub counted : r.before + length (held r.window) ≡ length read
  pub going : r.fault ≡ None

-- the fault that was returned
abbrev pub fault_of : ItemReader → Option RecordFault
fault_of r = r.fault

-- the slot that it reads
abbrev pub slot_of : ItemReader → ℕ
slot_of r = r.slot

-- the place of the next item
abbrev pub place_of : ItemReader → Place
place_of r = r.place

-- the greatest number of items that may still come
abbrev pub room : ItemReader → ℕ
room r = may_come r.place

-- what is known if no fault was returned
abbrev pub IfGoing : ItemReader → Type 0 → Type 0
IfGoing r Fact = (read : List ℕ) (given : List Item) → StandsFor r read given → Fact

-- a fault that was returned is returned again, and nothing is read
abbrev pub Repeats : {T : Type 0} → Result T (Stopped RecordFault) → ItemReader → ItemReader
    → ShelfState → ShelfState → Type 0
Repeats result old new before after = (f : RecordFault) → fault_of old ≡ Some f
    → (result ≡ Err (Refused f)) × (fault_of new ≡ Some f) × (after ≡ before)

-- whatever bytes come after, these are the items and this is the fault
abbrev pub IsFaulty : RecordFault → List ℕ → List Item → Type 0
IsFaulty f read given = (tail : List ℕ)
    → (items_in (read ++ tail) ≡ given) × (fault_in (read ++ tail) ≡ Some f)

-- all items before the fault were returned; the bytes read show it, or the slot has no more
pub record FoundFault (f : RecordFault) (at_end : Type 0) (read : List ℕ) (given : List Item)
    : Type 0 where
  pub before : items_in read ≡ given
  pub is : fault_in read ≡ Some f
  pub found : IsFaulty f read given ⊎ at_end
  pub truncated : f.reason ≡ Truncated → at_end

-- a piece is read only if the bytes before it give neither an item nor a fault
abbrev pub ReadsIfNeeded : List ℕ → List Item → List ℕ → Type 0
ReadsIfNeeded read given more = ReadsWhile
    (λ first. (items_in (read ++ first) ≡ given) × (fault_so_far (read ++ first) ≡ None)) more

-- Only bytes that were needed were read. `Then` is known of all bytes that the reader read, these
-- included, and of the items that it had returned.
abbrev pub HasRead : ShelfState → ShelfState → ItemReader → (List ℕ → List Item → Type 0) → Type 0
HasRead before after r Then = (more : List ℕ) × Reads before after (slot_of r) more
    × ((read : List ℕ) (given : List Item) → StandsFor r read given
    → ReadsIfNeeded read given more × Then (read ++ more) given) × AreBytes more

-- this was the last item, and its bytes are held
pub record Holds (r : ItemReader) (view : ItemView) (item : Item) : Type 0 where
  pub last : view.span.len ≡ r.last
  pub shows : Shows view.place view.span (held r.window) item

-- the next item is returned, in the place to which those before it lead
pub record GaveItem (view : ItemView) (r : ItemReader) (read : List ℕ) (given : List Item)
    : Type 0 where
  pub item : Item
  pub behind : (rest : List ℕ) × Leads places.Header read given view.place rest
  pub holds : Holds r view item
  pub stands : StandsFor r read (given ++ item ∷ [])
  pub others : List Item
  pub is : items_in read ≡ given ++ item ∷ others

-- a view that is returned is of an item whose bytes are held
abbrev pub GaveView : Result (Option ItemView) (Stopped RecordFault) → ItemReader → Type 0
GaveView (Ok (Some view)) r = (item : Item) × Holds r view item
GaveView (Ok None) r = Unit {0}
GaveView (Err stop) r = Unit {0}

-- what a result says of the bytes read and the items returned
abbrev pub ItemIs : Result (Option ItemView) (Stopped RecordFault) → ItemReader → Type 0
    → List ℕ → List Item → Type 0
ItemIs (Ok (Some view)) r at_end read given = GaveItem view r read given
ItemIs (Ok None) r at_end read given = StandsFor r read given × at_end × (items_in read ≡ given)
    × (fault_in read ≡ None)
ItemIs (Err (Refused f)) r at_end read given =
    FoundFault f at_end read given × (fault_of r ≡ Some f)
ItemIs (Err (Failed Read)) r at_end read given = StandsFor r read given × (items_in read ≡ given)
    × (fault_so_far read ≡ None)
ItemIs (Err (Failed Write)) r at_end read given = ⊥
ItemIs (Err (Failed OutOfMemory)) r at_end read given = Unit {0}

-- an item lowers the number of items that may come, and any other result leaves it
abbrev pub RoomFell : {View : Type 0} → Result (Option View) (Stopped RecordFault) → ℕ → ℕ → Type 0
RoomFell (Ok (Some view)) old new = new < old
RoomFell (Ok None) old new = new ≡ old
RoomFell (Err stop) old new = new ≡ old
