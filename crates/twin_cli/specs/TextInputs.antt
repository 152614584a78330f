-- The inputs of a stimulus in memory, one by one.
use Rattle.std.specs.Prelude.{◌≡◌, ℕ, ◌≤◌, List, [], ◌∷◌, ◌++◌, length, Option, Some, None, Result}
use Rattle.std.specs.Prelude.{Ok, Err}
use Rattle.det_values.specs.declared.frames.CycleInput.{CycleInput}
use Rattle.det_io.specs.Shelf.{Reads}
use Rattle.det_io.specs.TextShelf.{one_slot, text_shelf_state}
use Rattle.det_io.specs.declared.failure.Failure.TheVariants.{OutOfMemory}
use Rattle.det_io.specs.declared.failure.Stopped.{Stopped}
use Rattle.det_io.specs.declared.failure.Stopped.TheVariants.{Refused, Failed}
use Rattle.stimulus.specs.declared.stimulus_item.StimulusFault.{StimulusFault}
use Rattle.stimulus.specs.Reading.{Terminated, BadLine, blocks, ending}
use Rattle.stimulus.specs.slot_reader.StandsFor.{StandsFor, events_of}
use Rattle.twin_cli.specs.declared.text_inputs.TextInputs.{TextInputs}

module _ (text : List ℕ) (events : ℕ) where
  -- these inputs of the text were given
  pub record IsBehind (source : TextInputs) (given : List CycleInput) : Type 0 where
    pub read : List ℕ
    pub reads : Reads (one_slot text) (text_shelf_state source.shelf) 0 read
    pub fed : StandsFor source.reader read given
    pub known : events_of source.reader ≡ events

  -- one input more, at most 1,000,000 in all
  pub record Gives (source : TextInputs) (given : List CycleInput) : Type 0 where
    pub behind : IsBehind source given
    pub few : length given ≤ 1000000

  -- the text is a whole stimulus, and all of its inputs were given
  pub record IsWhole (given : List CycleInput) : Type 0 where
    pub all : blocks events text ≡ given
    pub good : ending events text ≡ Terminated

  abbrev pub Comes : Result (Option CycleInput) (Stopped StimulusFault) → TextInputs
      → List CycleInput → Type 0
  Comes (Ok (Some input)) source given = Gives source (given ++ input ∷ [])
  Comes (Ok None) source given = IsWhole given
  Comes (Err (Refused fault)) source given = ending events text ≡ BadLine fault.line
  Comes (Err (Failed OutOfMemory)) source given = Unit {0}
  Comes (Err (Failed failure)) source given = ⊥
