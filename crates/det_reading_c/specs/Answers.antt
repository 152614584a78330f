-- What a call answers, and what it changes.
use Rattle.std.specs.Prelude.{◌≡◌, ◌≢◌, ◌↔◌, ℕ, ◌-◌, ◌≤◌, List, ◌++◌, length, drop}
use Rattle.det_values.specs.Values.{ProfileValue}
use Rattle.det_values.specs.declared.frames.Frame.{Frame}
use Rattle.record_grammar.specs.declared.record_fault.Reason.{Reason}
use Rattle.record_grammar.specs.declared.place.Place.TheVariants as places
use Rattle.record_grammar.specs.declared.item.Item.{Item}
use Rattle.record_grammar.specs.declared.item.Item.TheVariants as items
use Rattle.record_grammar.specs.Read.{Read, Got, More, Bad}
use Rattle.record_grammar.specs.Grammar.{profile_at, item_at}
use Rattle.record_view.specs.Shows.{events_of}
use Rattle.c_types.specs.declared.frame.DetFrame.{DetFrame}
use Rattle.c_types.specs.declared.frame.DetRecordFault.{DetRecordFault}
use Rattle.c_types.specs.declared.profile.DetHeader.{DetHeader}
use Rattle.c_types.specs.Places.{place_of}
use Rattle.det_reading_c.specs.declared.reading.DetReading.{DetReading}
use Rattle.det_reading_c.specs.Readings.{HasScanned, offset_after, IsAfter}
use Rattle.det_reading_c.specs.Faults.{reason_number}
use Rattle.det_reading_c.specs.Headers.{profile_in}
use Rattle.det_reading_c.specs.Frames.{IsFrameAt}

-- the answers of a call that reads: 0 for a whole item, 1 if it wants more bytes, 2 for a fault, 3
-- for an item that isn't the next one

-- The fault is that the byte with this many bytes from it to the end can't come, in the bytes with
-- which the reading goes on.
abbrev pub IsFaultOf : Reason → ℕ → List ℕ → DetReading → DetRecordFault → Type 0
IsFaultOf reason left bytes reading fault =
    (fault.offset ≡ offset_after reading.offset (length bytes - left))
    × (fault.reason ≡ reason_number reason)

-- what C lends to a call that reads a frame
pub record FrameCall : Type 0 where
  pub reading : DetReading
  pub frame : DetFrame
  pub fault : DetRecordFault

abbrev pub frame_call : DetReading → DetFrame → DetRecordFault → FrameCall
frame_call reading frame fault = record { reading = reading; frame = frame; fault = fault }

-- this frame is the first part of the bytes, and the struct is of it
pub record IsFrameRead (item : Item) (rest bytes : List ℕ) (old new : FrameCall) : Type 0 where
  pub frame : Frame
  pub is : item ≡ items.Frame frame
  pub parts : IsFrameAt (events_of (place_of old.reading.record)) new.frame bytes frame
  pub rest_is : rest ≡ drop new.frame.length bytes
  pub within : new.frame.length ≤ length bytes
  pub after : IsAfter item new.frame.length old.reading new.reading

-- The answer to what the grammar reads. If it wants more bytes, the scan stays right when they
-- come.
abbrev pub IsFrameAnswer : ℕ → Read Item → List ℕ → FrameCall → FrameCall → Type 0
IsFrameAnswer answer (Got x) bytes old new =
    (answer ≡ 0) × IsFrameRead x.0 x.1 bytes old new
IsFrameAnswer answer More bytes old new =
    (answer ≡ 1) × ((more : List ℕ) → HasScanned new.reading (bytes ++ more))
IsFrameAnswer answer (Bad reason left) bytes old new =
    (answer ≡ 2) × IsFaultOf reason left bytes old.reading new.fault

-- what a call changes: the frame and the reading by a whole frame, only the scan if more bytes are
-- wanted, and the fault by a fault
pub record FrameChanges (answer : ℕ) (old new : FrameCall) : Type 0 where
  pub frame : answer ≢ 0 → new.frame ≡ old.frame
  pub place : answer ≢ 0 → (new.reading.offset ≡ old.reading.offset)
      × (new.reading.record ≡ old.reading.record)
  pub scan : answer ≢ 0 → answer ≢ 1 → new.reading ≡ old.reading
  pub fault : answer ≢ 2 → new.fault ≡ old.fault

-- the result of reading the next frame
pub record ReadsFrame (answer : ℕ) (bytes : List ℕ) (old new : FrameCall) : Type 0 where
  pub misplaced : (answer ≡ 3) ↔ (place_of old.reading.record ≡ places.Header)
  pub read : place_of old.reading.record ≢ places.Header → HasScanned old.reading bytes
      → IsFrameAnswer answer (item_at (place_of old.reading.record) bytes) bytes old new
  pub changes : FrameChanges answer old new

-- ---- the header

-- what C lends to a call that reads a header
pub record HeaderCall : Type 0 where
  pub reading : DetReading
  pub header : DetHeader
  pub length : ℕ
  pub fault : DetRecordFault

abbrev pub header_call : DetReading → DetHeader → ℕ → DetRecordFault → HeaderCall
header_call reading header length fault =
    record { reading = reading; header = header; length = length; fault = fault }

-- the header of this profile is the first part of the bytes, and the struct is of it
pub record IsHeaderRead (p : ProfileValue) (rest bytes : List ℕ) (old new : HeaderCall)
    : Type 0 where
  pub profile : profile_in new.header ≡ p
  pub rest_is : rest ≡ drop new.length bytes
  pub within : new.length ≤ length bytes
  pub after : IsAfter (items.Header p) new.length old.reading new.reading

abbrev pub IsHeaderAnswer : ℕ → Read ProfileValue → List ℕ → HeaderCall → HeaderCall → Type 0
IsHeaderAnswer answer (Got x) bytes old new = (answer ≡ 0) × IsHeaderRead x.0 x.1 bytes old new
IsHeaderAnswer answer More bytes old new = answer ≡ 1
IsHeaderAnswer answer (Bad reason left) bytes old new =
    (answer ≡ 2) × IsFaultOf reason left bytes old.reading new.fault

-- what a call changes: header, length and reading by a whole header, and the fault by a fault
pub record HeaderChanges (answer : ℕ) (old new : HeaderCall) : Type 0 where
  pub header : answer ≢ 0 → new.header ≡ old.header
  pub length : answer ≢ 0 → new.length ≡ old.length
  pub reading : answer ≢ 0 → new.reading ≡ old.reading
  pub fault : answer ≢ 2 → new.fault ≡ old.fault

-- the result of reading the header
pub record ReadsHeader (answer : ℕ) (bytes : List ℕ) (old new : HeaderCall) : Type 0 where
  pub misplaced : (answer ≡ 3) ↔ (place_of old.reading.record ≢ places.Header)
  pub read : place_of old.reading.record ≡ places.Header
      → IsHeaderAnswer answer (profile_at bytes) bytes old new
  pub changes : HeaderChanges answer old new
