-- What a reader knows of the bytes that it read and of the inputs that it returned.
use Rattle.std.specs.Prelude.{◌≡◌, ◌⊎◌, ℕ, ◌≤◌, List, [], ◌∷◌, ◌++◌, length, true, false, Option}
use Rattle.std.specs.Prelude.{Some, None, Result, Ok, Err}
use Rattle.det_io.specs.Prefix.{IsPrefix}
use Rattle.det_io.specs.declared.failure.Failure.TheVariants.{Read, Write, OutOfMemory}
use Rattle.det_io.specs.declared.failure.Stopped.{Stopped}
use Rattle.det_io.specs.declared.failure.Stopped.TheVariants.{Refused, Failed}
use Rattle.det_values.specs.declared.frames.CycleInput.{CycleInput}
use Rattle.stimulus.specs.declared.stimulus_item.StimulusFault.{StimulusFault}
use Rattle.stimulus.specs.declared.stimulus_item.StimulusItem.{StimulusItem}
use Rattle.stimulus.specs.Limits.{IsInput}
use Rattle.stimulus.specs.Reading.{Terminated, BadLine, blocks, ending, has_bad, inputs_of}
use Rattle.stimulus.specs.StandsFor.{StandsFor as Reads}
use Rattle.stimulus.specs.declared.slot_reader.stimulus_reader.StimulusReader.{StimulusReader}

-- the slot that it reads
abbrev pub slot_of : StimulusReader → ℕ
slot_of r = r.slot

-- the number of events of its profile
abbrev pub events_of : StimulusReader → ℕ
events_of r = r.text.events

-- these bytes were read, and the inputs of these blocks returned
pub record StandsFor (r : StimulusReader) (read : List ℕ) (given : List CycleInput) : Type 0 where
  pub items : List StimulusItem
  pub reads : Reads r.text read items
  pub inputs : inputs_of items ≡ given

-- bytes are read only if all complete blocks of those before were returned
abbrev pub ReadsIfNeeded : ℕ → List ℕ → List CycleInput → (more : List ℕ) → Type 0
ReadsIfNeeded events read given more = (more ≡ []) ⊎ (blocks events read ≡ given)

-- This block comes next. Its input is within its limits, and no more than 1,000,000 were returned.
pub record IsNext (input : CycleInput) (events : ℕ) (read : List ℕ) (given : List CycleInput)
    : Type 0 where
  pub first : IsPrefix (given ++ input ∷ []) (blocks events read)
  pub within : IsInput events input
  pub few : length (given ++ input ∷ []) ≤ 1000000

-- all complete blocks of the bytes read were returned, and no line of them is bad
pub record HasAll (events : ℕ) (read : List ℕ) (given : List CycleInput) : Type 0 where
  pub blocks : blocks events read ≡ given
  pub good : has_bad events read ≡ false

-- the text is a whole stimulus, and all of its blocks were returned
pub record IsWhole (events : ℕ) (at_end : Type 0) (read : List ℕ) (given : List CycleInput)
    : Type 0 where
  pub blocks : blocks events read ≡ given
  pub ending : ending events read ≡ Terminated
  pub end : at_end

-- all blocks before the bad line were returned, and it counts as fed or the slot has no more bytes
pub record IsBad (line events : ℕ) (at_end : Type 0) (read : List ℕ) (given : List CycleInput)
    : Type 0 where
  pub blocks : blocks events read ≡ given
  pub ending : ending events read ≡ BadLine line
  pub found : (has_bad events read ≡ true) ⊎ at_end

abbrev pub InputIs : Result (Option CycleInput) (Stopped StimulusFault) → StimulusReader → Type 0
    → List ℕ → List CycleInput → Type 0
InputIs (Ok (Some input)) r at_end read given =
    StandsFor r read (given ++ input ∷ []) × IsNext input (events_of r) read given
InputIs (Ok None) r at_end read given =
    StandsFor r read given × IsWhole (events_of r) at_end read given
InputIs (Err (Refused fault)) r at_end read given = IsBad fault.line (events_of r) at_end read given
InputIs (Err (Failed Read)) r at_end read given =
    StandsFor r read given × HasAll (events_of r) read given
InputIs (Err (Failed Write)) r at_end read given = ⊥
InputIs (Err (Failed OutOfMemory)) r at_end read given = IsPrefix given (blocks (events_of r) read)
