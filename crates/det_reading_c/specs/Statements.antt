-- The law of what was written.
use Rattle.std.specs.Prelude.{◌≡◌, ℕ, ◌≤◌, List, ◌++◌}
use Rattle.det_values.specs.Values.{ProfileValue}
use Rattle.det_values.specs.declared.frames.Frame.{Frame}
use Rattle.record_grammar.specs.declared.place.Place.TheVariants as places
use Rattle.record_grammar.specs.declared.item.Item.TheVariants as items
use Rattle.record_grammar.specs.Spelling.{IsHeader, spelled_header}
use Rattle.record_grammar.specs.Laws.{MayStand, item_spelling}
use Rattle.record_view.specs.Shows.{events_of}
use Rattle.c_types.specs.Places.{place_of}
use Rattle.det_reading_c.specs.Readings.{HasScanned}
use Rattle.det_reading_c.specs.Answers.{FrameCall, IsFrameRead, ReadsFrame}
use Rattle.det_reading_c.specs.Answers.{HeaderCall, IsHeaderRead, ReadsHeader}

abbrev pub SpelledHeaderIsRead : Type 0
SpelledHeaderIsRead =
    (answer : ℕ) (p : ProfileValue) (rest : List ℕ) (old new : HeaderCall)
    → place_of old.reading.record ≡ places.Header → IsHeader p
    → ReadsHeader answer (spelled_header p ++ rest) old new
    → (answer ≡ 0) × IsHeaderRead p rest (spelled_header p ++ rest) old new

-- the bytes of a frame in the place of a reading, and others after them
abbrev pub frame_then : FrameCall → Frame → List ℕ → List ℕ
frame_then call frame rest =
    item_spelling (place_of call.reading.record) (items.Frame frame) ++ rest

-- `events_of` is at most 65536 in each reading, whose field for it has two bytes
abbrev pub SpelledFrameIsRead : Type 0
SpelledFrameIsRead =
    (answer : ℕ) (frame : Frame) (rest : List ℕ) (old new : FrameCall)
    → events_of (place_of old.reading.record) ≤ 65536
    → MayStand (place_of old.reading.record) (items.Frame frame)
    → HasScanned old.reading (frame_then old frame rest)
    → ReadsFrame answer (frame_then old frame rest) old new
    → (answer ≡ 0) × IsFrameRead (items.Frame frame) rest (frame_then old frame rest) old new
