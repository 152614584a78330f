-- One step of a reader.
use Rattle.std.specs.Prelude.{◌≡◌, ℕ, ◌+◌, ◌-◌, ◌^◌, ◌<◌, List, length, Option, Some, None, Result}
use Rattle.std.specs.Prelude.{Ok, Err}
use Rattle.det_io.specs.declared.failure.Stopped.{Stopped}
use Rattle.record_grammar.specs.declared.record_fault.RecordFault.{RecordFault}
use Rattle.record_grammar.specs.declared.item.Item.{Item}
use Rattle.record_grammar.specs.Read.{More}
use Rattle.record_grammar.specs.Grammar.{item_at}
use Rattle.record_grammar.specs.Record.{fault as fault_in}
use Rattle.record_view.specs.declared.view.ItemView.{ItemView}
use Rattle.record_view.specs.declared.partial.Partial.TheVariants.{Nothing}
use Rattle.record_view.specs.Scans.{IsScan}
use Rattle.record_reader.specs.declared.item_reader.reader.ItemReader.{ItemReader}
use Rattle.record_reader.specs.declared.item_reader.reader.Progress.{Progress}
use Rattle.record_reader.specs.declared.item_reader.reader.Progress.TheVariants as progress
use Rattle.record_reader.specs.item_reader.Held.{held}
use Rattle.record_reader.specs.item_reader.StandsFor.{StandsFor, unread, fault_of, GaveItem, ItemIs}
use Rattle.record_reader.specs.item_reader.StandsFor.{FoundFault, Holds}

-- how many bytes were read
abbrev pub count_of : ItemReader → ℕ
count_of r = r.before + length (held r.window)

-- how many bytes may still be read, since all are counted in 64 bits
abbrev pub countable : ItemReader → ℕ
countable r = 2 ^ 64 - count_of r

-- no byte was read, no item returned, and nothing is known of the next one
pub record Stays (old new : ItemReader) : Type 0 where
  pub slot : new.slot ≡ old.slot
  pub place : new.place ≡ old.place
  pub scan : new.scan ≡ record { partial = Nothing; read = 0 }
  pub fault : new.fault ≡ old.fault
  pub unread : unread new ≡ unread old
  pub count : count_of new ≡ count_of old

-- no last item is held
pub record Forgot (old new : ItemReader) : Type 0 where
  pub stays : Stays old new
  pub last : new.last ≡ 0

-- the scan is right for the item whose first bytes are held
abbrev pub Scanned : ItemReader → Type 0
Scanned r = IsScan r.place r.scan (unread r)

-- the item is returned whose bytes are held, or the scan of the next one is right
abbrev pub ScannedOf : Result (Option ItemView) RecordFault → ItemReader → Type 0
ScannedOf (Ok (Some view)) r = (item : Item) × Holds r view item
ScannedOf (Ok None) r = Scanned r
ScannedOf (Err f) r = Unit {0}

abbrev pub ScannedBy : Result Progress (Stopped RecordFault) → ItemReader → Type 0
ScannedBy (Ok (progress.Item view)) r = (item : Item) × Holds r view item
ScannedBy (Ok progress.Piece) r = Scanned r
ScannedBy (Ok progress.End) r = Unit {0}
ScannedBy (Err stop) r = Unit {0}

-- all items of the bytes read were returned, and more bytes are needed
pub record GaveAll (r : ItemReader) (read : List ℕ) (given : List Item) : Type 0 where
  pub stands : StandsFor r read given
  pub more : item_at r.place (unread r) ≡ More

-- what the held bytes show
abbrev pub HeldIs : Result (Option ItemView) RecordFault → ItemReader → List ℕ → List Item → Type 0
HeldIs (Ok (Some view)) r read given = GaveItem view r read given
HeldIs (Ok None) r read given = GaveAll r read given
HeldIs (Err f) r read given = FoundFault f ⊥ read given × (fault_of r ≡ Some f)

-- an item lowers the number of items that may come, and any other result leaves it
abbrev pub RoomOf : Result (Option ItemView) RecordFault → ℕ → ℕ → Type 0
RoomOf (Ok (Some view)) old new = new < old
RoomOf (Ok None) old new = new ≡ old
RoomOf (Err f) old new = new ≡ old

-- if the held bytes have no whole item, no last item is held either
abbrev pub KeepsOn : Result (Option ItemView) RecordFault → ItemReader → ItemReader → Type 0
KeepsOn (Ok (Some view)) old new = Unit {0}
KeepsOn (Ok None) old new = (new.last ≡ 0) × (fault_of new ≡ None) × (count_of new ≡ count_of old)
KeepsOn (Err f) old new = Unit {0}

abbrev pub StepIs : Result Progress (Stopped RecordFault) → ItemReader → Type 0
    → List ℕ → List Item → Type 0
StepIs (Ok (progress.Item view)) r at_end read given = ItemIs (Ok (Some view)) r at_end read given
StepIs (Ok progress.Piece) r at_end read given = StandsFor r read given
StepIs (Ok progress.End) r at_end read given = ItemIs (Ok None) r at_end read given
StepIs (Err stop) r at_end read given = ItemIs (Err stop) r at_end read given

-- an item lowers the number of items that may come, and any other step leaves it
abbrev pub Shrinks : Result Progress (Stopped RecordFault) → ℕ → ℕ → Type 0
Shrinks (Ok (progress.Item view)) old new = new < old
Shrinks (Ok progress.Piece) old new = new ≡ old
Shrinks (Ok progress.End) old new = new ≡ old
Shrinks (Err stop) old new = new ≡ old

-- after a piece the reader goes on, and fewer bytes may be read
abbrev pub GoesOn : Result Progress (Stopped RecordFault) → ItemReader → ItemReader → Type 0
GoesOn (Ok (progress.Item view)) old new = Unit {0}
GoesOn (Ok progress.Piece) old new =
    (new.last ≡ 0) × (fault_of new ≡ None) × (countable new < countable old)
GoesOn (Ok progress.End) old new = Unit {0}
GoesOn (Err stop) old new = Unit {0}

-- only the held bytes differ
pub record ReadsOn (old new : ItemReader) : Type 0 where
  pub slot : new.slot ≡ old.slot
  pub place : new.place ≡ old.place
  pub scan : new.scan ≡ old.scan
  pub fault : new.fault ≡ old.fault
  pub last : new.last ≡ old.last
  pub before : new.before ≡ old.before

-- the fault of a record whose slot has no more bytes, if it has one
abbrev pub FinishIs : Result (Unit {0}) RecordFault → ItemReader → ItemReader → Type 0
FinishIs (Ok u) old new = (new ≡ old)
    × ((read : List ℕ) (given : List Item) → GaveAll old read given → fault_in read ≡ None)
FinishIs (Err f) old new = (fault_of new ≡ Some f) × (new.slot ≡ old.slot) × (new.place ≡ old.place)
    × ((read : List ℕ) (given : List Item) → GaveAll old read given → fault_in read ≡ Some f)
