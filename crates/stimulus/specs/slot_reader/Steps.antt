-- One step of a reader.
use Rattle.std.specs.Prelude.{ℕ, ◌≤◌, ◌<◌, List, Bool, true, false, Option, Some, None, Result, Ok}
use Rattle.std.specs.Prelude.{Err}
use Rattle.det_io.specs.declared.failure.Failure.TheVariants.{Read, Write, OutOfMemory}
use Rattle.det_io.specs.declared.failure.Stopped.{Stopped}
use Rattle.det_io.specs.declared.failure.Stopped.TheVariants.{Refused, Failed}
use Rattle.det_values.specs.declared.frames.CycleInput.{CycleInput}
use Rattle.stimulus.specs.declared.stimulus_item.StimulusError.{StimulusError}
use Rattle.stimulus.specs.declared.stimulus_item.StimulusError.TheVariants as errors
use Rattle.stimulus.specs.declared.stimulus_item.StimulusFault.{StimulusFault}
use Rattle.stimulus.specs.StandsFor.{IsSettled, room as text_room}
use Rattle.stimulus.specs.declared.slot_reader.stimulus_reader.StimulusReader.{StimulusReader}
use Rattle.stimulus.specs.slot_reader.StandsFor.{StandsFor, HasAll, InputIs, events_of}

-- how the text stopped, as the reader reports it
abbrev pub stopped_by : StimulusError → Stopped StimulusFault
stopped_by (errors.Bad fault) = Refused fault
stopped_by errors.OutOfMemory = Failed OutOfMemory

-- after this many more bytes some line is bad
abbrev pub room : StimulusReader → ℕ
room r = text_room r.text

-- more bytes are needed, and may be read
pub record IsHungry (r : StimulusReader) : Type 0 where
  pub settled : IsSettled r.text
  pub room : 1 ≤ room r

-- all complete blocks of the bytes read were returned, and no line of them is bad
pub record GaveAll (r : StimulusReader) (read : List ℕ) (given : List CycleInput) : Type 0 where
  pub stands : StandsFor r read given
  pub all : HasAll (events_of r) read given

-- what was fed has a block, or needs more bytes, or has a bad line
abbrev pub FedIs : Result (Option CycleInput) (Stopped StimulusFault) → StimulusReader → List ℕ
    → List CycleInput → Type 0
FedIs (Ok (Some input)) r read given = InputIs (Ok (Some input)) r ⊥ read given
FedIs (Ok None) r read given = GaveAll r read given
FedIs (Err why) r read given = InputIs (Err why) r ⊥ read given

-- after None more bytes may be read; no read was made here
abbrev pub Hungers : Result (Option CycleInput) (Stopped StimulusFault) → StimulusReader → Type 0
Hungers (Ok None) r = IsHungry r
Hungers (Ok (Some input)) r = Unit {0}
Hungers (Err (Refused fault)) r = Unit {0}
Hungers (Err (Failed Read)) r = ⊥
Hungers (Err (Failed Write)) r = Unit {0}
Hungers (Err (Failed OutOfMemory)) r = Unit {0}

-- a piece was read, or the end of the slot
abbrev pub PieceIs : Result Bool (Stopped StimulusFault) → StimulusReader → Type 0 → List ℕ
    → List CycleInput → Type 0
PieceIs (Ok true) r at_end read given = StandsFor r read given
PieceIs (Ok false) r at_end read given = InputIs (Ok None) r at_end read given
PieceIs (Err why) r at_end read given = InputIs (Err why) r at_end read given

-- after a piece fewer bytes may be read
abbrev pub Shrinks : Result Bool (Stopped StimulusFault) → ℕ → ℕ → Type 0
Shrinks (Ok true) old new = new < old
Shrinks (Ok false) old new = Unit {0}
Shrinks (Err why) old new = Unit {0}
