-- What a reader of frames knows of the bytes that it read from its slot and of the items that it
-- returned. The first of these is the header.
use Rattle.std.specs.Prelude.{◌≡◌, ℕ, ◌<◌, List, [], ◌∷◌, ◌++◌, Option, Some, None}
use Rattle.std.specs.Prelude.{Result, Ok, Err}
use Rattle.det_values.specs.Values.{ProfileValue}
use Rattle.det_values.specs.declared.frames.Frame.{Frame}
use Rattle.det_io.specs.Shelf.{ShelfState, Reads, IsAtEnd}
use Rattle.det_io.specs.declared.failure.Failure.TheVariants.{Read, Write, OutOfMemory}
use Rattle.det_io.specs.declared.failure.Stopped.{Stopped}
use Rattle.det_io.specs.declared.failure.Stopped.TheVariants.{Refused, Failed}
use Rattle.record_grammar.specs.declared.record_fault.RecordFault.{RecordFault}
use Rattle.record_grammar.specs.declared.item.Item.{Item}
use Rattle.record_grammar.specs.declared.item.Item.TheVariants as items
use Rattle.record_grammar.specs.declared.place.Place.TheVariants as places
use Rattle.record_grammar.specs.Leads.{Leads}
use Rattle.record_grammar.specs.Record.{items as items_in, fault_so_far}
use Rattle.record_view.specs.declared.view.FrameView.{FrameView}
use Rattle.record_view.specs.declared.view.ItemView.{ItemView}
use Rattle.record_view.specs.Shows.{item_view}
use Rattle.record_reader.specs.item_reader.StandsFor as inner
use Rattle.record_reader.specs.item_reader.StandsFor.{FoundFault, ReadsIfNeeded}
unfoldable pub use Rattle.record_reader.specs.item_reader.StandsFor.{RoomFell}
use Rattle.record_reader.specs.declared.frame_reader.FrameReader.{FrameReader}
use Rattle.record_reader.specs.declared.frame_reader.OpenRecord.{OpenRecord}

-- these bytes were read, these items returned, and no fault
abbrev pub StandsFor : FrameReader → List ℕ → List Item → Type 0
StandsFor r read given = inner.StandsFor r.items read given

-- the fault that was returned
abbrev pub fault_of : FrameReader → Option RecordFault
fault_of r = inner.fault_of r.items

-- the slot that it reads
abbrev pub slot_of : FrameReader → ℕ
slot_of r = inner.slot_of r.items

-- what is known if no fault was returned
abbrev pub IfGoing : FrameReader → Type 0 → Type 0
IfGoing r Fact = inner.IfGoing r.items Fact

-- a fault that was returned is returned again, and nothing is read
abbrev pub Repeats : {T : Type 0} → Result T (Stopped RecordFault) → FrameReader → FrameReader
    → ShelfState → ShelfState → Type 0
Repeats result old new before after = inner.Repeats result old.items new.items before after

-- only the header of this profile was returned, and the shelf has the slot
pub record IsOpen (frames : FrameReader) (profile : ProfileValue) (shelf : ShelfState)
    : Type 0 where
  pub gave : (read : List ℕ) × StandsFor frames read (items.Header profile ∷ [])
  pub slot : slot_of frames < shelf.slots

-- the greatest number of frames that may still come
abbrev pub room : FrameReader → ℕ
room r = inner.room r.items

-- this was the last frame, and its bytes are held
abbrev pub Holds : FrameReader → FrameView → Frame → Type 0
Holds r view frame = inner.Holds r.items (item_view view) (items.Frame frame)

-- Only bytes that were needed were read after the header. `Then` is known of all bytes that the
-- reader read, these included, and of the items that it had returned.
abbrev pub HasRead : ShelfState → ShelfState → FrameReader → (List ℕ → List Item → Type 0) → Type 0
HasRead before after r Then = (more : List ℕ) × Reads before after (slot_of r) more
    × ((profile : ProfileValue) (read : List ℕ) (behind : List Item)
    → StandsFor r read (items.Header profile ∷ behind)
    → ReadsIfNeeded read (items.Header profile ∷ behind) more
    × Then (read ++ more) (items.Header profile ∷ behind))

-- the next frame is returned, in the place to which the items before it lead
pub record GaveFrame (view : FrameView) (r : FrameReader) (read : List ℕ) (given : List Item)
    : Type 0 where
  pub frame : Frame
  pub before : (rest : List ℕ) × Leads places.Header read given view.place rest
  pub holds : Holds r view frame
  pub stands : StandsFor r read (given ++ items.Frame frame ∷ [])
  pub others : List Item
  pub is : items_in read ≡ given ++ items.Frame frame ∷ others

-- a view that is returned is of a frame whose bytes are held
abbrev pub GaveView : Result (Option FrameView) (Stopped RecordFault) → FrameReader → Type 0
GaveView (Ok (Some view)) r = (frame : Frame) × Holds r view frame
GaveView (Ok None) r = Unit {0}
GaveView (Err stop) r = Unit {0}

-- what a result says of the bytes read and the items returned
abbrev pub FrameIs : Result (Option FrameView) (Stopped RecordFault) → FrameReader → Type 0
    → List ℕ → List Item → Type 0
FrameIs (Ok (Some view)) r at_end read given = GaveFrame view r read given
FrameIs (Ok None) r at_end read given = inner.ItemIs (Ok None) r.items at_end read given
FrameIs (Err stop) r at_end read given = inner.ItemIs (Err stop) r.items at_end read given

-- ---- the header

-- there is an item
abbrev pub IsHeader : Option ItemView → Type 0
IsHeader (Some view) = Unit {0}
IsHeader None = ⊥

-- what a result says of the bytes read: only the header was returned, or they have a fault and no
-- whole header
abbrev pub HeaderIs : Result OpenRecord (Stopped RecordFault) → ℕ → Type 0 → List ℕ → Type 0
HeaderIs (Ok opened) slot at_end read =
    StandsFor opened.frames read (items.Header opened.profile ∷ [])
    × (slot_of opened.frames ≡ slot)
HeaderIs (Err (Refused fault)) slot at_end read = FoundFault fault at_end read []
HeaderIs (Err (Failed Read)) slot at_end read = (items_in read ≡ []) × (fault_so_far read ≡ None)
HeaderIs (Err (Failed Write)) slot at_end read = ⊥
HeaderIs (Err (Failed OutOfMemory)) slot at_end read = Unit {0}

-- the header's bytes were read from a slot, no more than needed, and this is known of them
pub record HasOpened (before after : ShelfState) (slot : ℕ)
    (result : Result OpenRecord (Stopped RecordFault)) : Type 0 where
  pub read : List ℕ
  pub reads : Reads before after slot read
  pub needed : ReadsIfNeeded [] [] read
  pub is : HeaderIs result slot (IsAtEnd after slot) read
