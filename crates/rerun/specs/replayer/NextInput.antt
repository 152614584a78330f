-- What `next_input` ensures of a record's bytes that it read and of the inputs that it gave.
use Rattle.std.specs.Prelude.{◌≡◌, ℕ, ◌<◌, ◌≤◌, List, [], ◌∷◌, ◌++◌, length, Option, Some, None}
use Rattle.std.specs.Prelude.{Result, Ok, Err}
use Rattle.std.specs.List.{All, flat_map}
use Rattle.det_io.specs.Shelf.{ShelfState, Reads}
use Rattle.det_io.specs.declared.failure.Failure.TheVariants.{Read, Write, OutOfMemory}
use Rattle.det_io.specs.declared.failure.Stopped.{Stopped}
use Rattle.det_io.specs.declared.failure.Stopped.TheVariants.{Refused, Failed}
use Rattle.det_values.specs.Values.{ProfileValue}
use Rattle.det_values.specs.declared.frames.CycleInput.{CycleInput}
use Rattle.record_grammar.specs.declared.record_fault.RecordFault.{RecordFault}
use Rattle.record_grammar.specs.declared.item.Item.{Item}
use Rattle.record_grammar.specs.declared.item.Item.TheVariants as items
use Rattle.record_grammar.specs.Record.{items as items_in, fault as fault_in, fault_so_far}
use Rattle.record_reader.specs.item_reader.Needed.{ReadsWhile}
use Rattle.record_reader.specs.item_reader.StandsFor.{FoundFault}
use Rattle.record_reader.specs.declared.frame_reader.FrameReader.{FrameReader}
use Rattle.record_reader.specs.Frames.{StandsFor, slot_of}
use Rattle.rerun.specs.replayer.ReplayRecord.{input_in, inputs}

-- these bytes of a record with this header were read, and these inputs of its runs were given
pub record HasGiven (profile : ProfileValue) (r : FrameReader) (read : List ℕ)
    (given : List CycleInput) : Type 0 where
  -- the items after the header
  pub behind : List Item
  pub stands : StandsFor r read (items.Header profile ∷ behind)
  pub inputs : flat_map input_in behind ≡ given

-- This input comes next. Its samples are of the profile's events, and at most 1,000,000 inputs are
-- given.
pub record IsNext (input : CycleInput) (profile : ProfileValue) (given : List CycleInput)
    : Type 0 where
  pub known : All (λ s. s.event < length profile.events) input.samples
  pub few : length (given ++ input ∷ []) ≤ 1000000

-- all inputs of what was read are given, and there is no fault in it
pub record HasAll (read : List ℕ) (given : List CycleInput) : Type 0 where
  pub inputs : inputs read ≡ given
  pub sound : fault_so_far read ≡ None

-- Bytes were read, the last of them only once all inputs before them were given and there was no
-- fault in them. What is known of the reader before the call is known of it afterwards.
abbrev pub ReadsOn : ShelfState → ShelfState → FrameReader
    → (ProfileValue → List ℕ → List CycleInput → Type 0) → Type 0
ReadsOn before after r Then = (more : List ℕ) × Reads before after (slot_of r) more
    × ((profile : ProfileValue) (read : List ℕ) (given : List CycleInput)
    → HasGiven profile r read given
    → ReadsWhile (λ first. HasAll (read ++ first) given) more
    × Then profile (read ++ more) given)

-- the record is whole, and all of its inputs are given
pub record IsWhole (at_end : Type 0) (read : List ℕ) (given : List CycleInput) : Type 0 where
  pub inputs : inputs read ≡ given
  pub whole : fault_in read ≡ None
  pub end : at_end

-- all inputs before the fault are given; the bytes read show it, or the slot has no more bytes
pub record HasFault (fault : RecordFault) (at_end : Type 0) (read : List ℕ)
    (given : List CycleInput) : Type 0 where
  pub inputs : inputs read ≡ given
  pub found : FoundFault fault at_end read (items_in read)

-- what a result says of the bytes read and the inputs given
abbrev pub InputIs : Result (Option CycleInput) (Stopped RecordFault) → ProfileValue → FrameReader
    → Type 0 → List ℕ → List CycleInput → Type 0
InputIs (Ok (Some input)) profile r at_end read given =
    HasGiven profile r read (given ++ input ∷ []) × IsNext input profile given
InputIs (Ok None) profile r at_end read given =
    HasGiven profile r read given × IsWhole at_end read given
InputIs (Err (Refused fault)) profile r at_end read given = HasFault fault at_end read given
InputIs (Err (Failed Read)) profile r at_end read given =
    HasGiven profile r read given × HasAll read given
InputIs (Err (Failed Write)) profile r at_end read given = ⊥
InputIs (Err (Failed OutOfMemory)) profile r at_end read given = Unit {0}
