-- Passing the items of a record to a taker, one after another: what the taker keeps of them, and
-- what a sink takes.
use Rattle.std.specs.Prelude.{◌≡◌, ℕ, List, [], ◌∷◌, ◌++◌, Option, Some, None, Result, Ok, Err}
use Rattle.det_io.specs.declared.failure.Failure.TheVariants.{Read, Write, OutOfMemory}
use Rattle.det_io.specs.declared.failure.Stopped.{Stopped}
use Rattle.det_io.specs.declared.failure.Stopped.TheVariants.{Refused, Failed}
use Rattle.det_io.specs.Prefix.{IsPrefix, IsProperPrefix}
use Rattle.det_io.specs.Shelf.{Reads, IsAtEnd}
use Rattle.det_io.specs.Sink.{Grew, GrewByPrefix}
use Rattle.det_io.specs.Traffic.{ShelfRun, SinkRun}
use Rattle.record_grammar.specs.declared.record_fault.RecordFault.{RecordFault}
use Rattle.record_grammar.specs.declared.item.Item.{Item}
use Rattle.record_grammar.specs.declared.place.Place.{Place}
use Rattle.record_grammar.specs.declared.place.Place.TheVariants as places
use Rattle.record_grammar.specs.Leads.{Leads}
use Rattle.record_grammar.specs.Record.{items as items_in, fault as fault_in, fault_so_far}
use Rattle.record_view.specs.declared.view.ItemView.{ItemView}
use Rattle.record_view.specs.Shows.{IsSpelling}
use Rattle.record_reader.specs.item_reader.Needed.{ReadsWhile}
use Rattle.record_reader.specs.item_reader.StandsFor.{FoundFault}

-- these are the first items of some record
pub record AreFirst (given : List Item) : Type 0 where
  pub bytes : List ℕ
  pub place : Place
  pub rest : List ℕ
  pub leads : Leads places.Header bytes given place rest

-- this item comes after those in a record, and these are its bytes
pub record IsNext (given : List Item) (item : Item) (view : ItemView) (bytes : List ℕ)
    : Type 0 where
  pub first : AreFirst (given ++ item ∷ [])
  pub after : (read : List ℕ) × (rest : List ℕ) × Leads places.Header read given view.place rest
  pub spelling : IsSpelling view item bytes

-- A taker of items, which may refuse with an `E`.
pub record ItemTaker (E : Type 0) : Type 1 where
  -- the fault of the record that a refusal reports, or none where the taker itself refuses
  pub fault_of : E → Option RecordFault
  -- what it writes of the first items of a record
  pub written : List Item → List ℕ
  -- its state is the one after these items
  pub stands : List Item → Type 0
  -- its state is the one in which it stopped at the item after these
  pub stopped : Stopped E → List Item → Item → Type 0

-- What a sink took after `front`: all of `more`, or a part of it where the call stopped. After a
-- failed write it isn't all.
abbrev pub Wrote : {E : Type 0} → Result (Unit {0}) (Stopped E) → List ℕ → List ℕ → SinkRun
    → Type 0
Wrote (Ok u) front more out = Grew out.before out.after (front ++ more)
Wrote (Err (Failed Write)) front more out =
    (part : List ℕ) × IsProperPrefix part more × Grew out.before out.after (front ++ part)
Wrote (Err stop) front more out =
    (part : List ℕ) × IsPrefix part more × Grew out.before out.after (front ++ part)

-- The state of a taker after its result for an item. A taker reads nothing.
abbrev pub AfterIs : {E : Type 0} → Result (Unit {0}) (Stopped E) → ItemTaker E → List Item → Item
    → Type 0
AfterIs (Ok u) taking given item = taking.stands (given ++ item ∷ [])
AfterIs (Err (Refused why)) taking given item =
    (taking.fault_of why ≡ None) × taking.stopped (Refused why) given item
AfterIs (Err (Failed Read)) taking given item = ⊥
AfterIs (Err stop) taking given item = taking.stopped stop given item

-- the item after these was taken, or the taker stopped at it
pub record Takes {E : Type 0} (result : Result (Unit {0}) (Stopped E)) (taking : ItemTaker E)
    (given : List Item) (item : Item) (front : List ℕ) (out : SinkRun) : Type 0 where
  pub more : List ℕ
  pub all : taking.written (given ++ item ∷ []) ≡ taking.written given ++ more
  pub wrote : Wrote result front more out
  pub after : AfterIs result taking given item

-- these items were taken, and the sink took what is written of them
pub record Took {E : Type 0} (taking : ItemTaker E) (given : List Item)
    (out : SinkRun) : Type 0 where
  pub stands : taking.stands given
  pub grew : Grew out.before out.after (taking.written given)

-- these are all items of a record, and this is its fault, if any
pub record AreAll (given : List Item) (end : Option RecordFault) (bytes : List ℕ) : Type 0 where
  pub items : items_in bytes ≡ given
  pub fault : fault_in bytes ≡ end

-- the taker stopped at the item after these
abbrev pub StopsAt : {E : Type 0} → Stopped E → ItemTaker E → List Item → List ℕ → SinkRun → Type 0
StopsAt stop taking given bytes out = (item : Item) × IsPrefix (given ++ item ∷ []) (items_in bytes)
    × Takes (Err stop) taking given item (taking.written given) out

-- a refusal by the record's fault came after all its items, and one by the taker came at an item
abbrev pub RefusedBy : {E : Type 0} → Option RecordFault → E → ItemTaker E → List Item → List ℕ
    → SinkRun → Type 0
RefusedBy (Some fault) why taking given bytes out =
    AreAll given (Some fault) bytes × Took taking given out
RefusedBy None why taking given bytes out = StopsAt (Refused why) taking given bytes out

-- How the reading of a record's items ended: after all of them, at a failed read, out of memory, or
-- where the taker stopped.
abbrev pub RecordRead : {E : Type 0} → Result (Unit {0}) (Stopped E) → ItemTaker E → List Item
    → List ℕ → SinkRun → Type 0
RecordRead (Ok u) taking given bytes out = AreAll given None bytes × Took taking given out
RecordRead (Err (Refused why)) taking given bytes out =
    RefusedBy (taking.fault_of why) why taking given bytes out
RecordRead (Err (Failed Read)) taking given bytes out =
    IsPrefix given (items_in bytes) × Took taking given out
RecordRead (Err (Failed Write)) taking given bytes out =
    StopsAt (Failed Write) taking given bytes out
RecordRead (Err (Failed OutOfMemory)) taking given bytes out = IsPrefix given (items_in bytes)
    × GrewByPrefix out.before out.after (taking.written given)

-- the bytes read show the fault that a refusal reports
abbrev pub Finds : Option RecordFault → List Item → List ℕ → Type 0 → Type 0
Finds (Some fault) given read at_end = FoundFault fault at_end read given
Finds None given read at_end = Unit {0}

-- how far the record was read: to its end, until its fault was certain, or as far as it could be
-- read
abbrev pub ReadsTo : {E : Type 0} → Result (Unit {0}) (Stopped E) → ItemTaker E → List Item
    → List ℕ → Type 0 → Type 0
ReadsTo (Ok u) taking given read at_end = at_end
ReadsTo (Err (Refused why)) taking given read at_end =
    Finds (taking.fault_of why) given read at_end
ReadsTo (Err (Failed Read)) taking given read at_end =
    (items_in read ≡ given) × (fault_so_far read ≡ None)
ReadsTo (Err stop) taking given read at_end = Unit {0}

-- before the last piece was read, the bytes had no items but these, and no fault
abbrev pub IsNeeded : List Item → List ℕ → Type 0
IsNeeded given read = ReadsWhile
    (λ first. IsPrefix (items_in first) given × (fault_so_far first ≡ None)) read

-- These bytes were read from a slot, and the fact holds of every content that the slot may have
-- had. That is any list that begins with them, or only they if nothing is left.
pub record OfSlot (shelf : ShelfRun) (slot : ℕ) (read : List ℕ) (Fact : List ℕ → Type 0)
    : Type 0 where
  pub reads : Reads shelf.first shelf.last slot read
  pub each : (rest : List ℕ) → (IsAtEnd shelf.last slot → rest ≡ []) → Fact (read ++ rest)

-- the items of the record in a slot were passed to a taker
pub record ItemsRead {E : Type 0} (result : Result (Unit {0}) (Stopped E)) (taking : ItemTaker E)
    (shelf : ShelfRun) (slot : ℕ) (out : SinkRun) : Type 0 where
  pub read : List ℕ
  pub given : List Item
  pub reads_to : ReadsTo result taking given read (IsAtEnd shelf.last slot)
  pub needed : IsNeeded given read
  pub record_read : OfSlot shelf slot read (λ bytes. RecordRead result taking given bytes out)
