-- The record that the inputs of a record give, whatever their outcomes were there.
use Rattle.std.specs.Prelude.{ℕ, List, map, Bool}
use Rattle.std.specs.List.{flat_map}
use Rattle.std.specs.Option.{is_none}
use Rattle.det_values.specs.Values.{ProfileValue}
use Rattle.det_values.specs.declared.frames.CycleInput.{CycleInput}
use Rattle.job.specs.Meaning.{Meaning}
use Rattle.record_grammar.specs.declared.item.Item.{Item}
use Rattle.record_grammar.specs.Record.{items as items_in, fault as fault_in}
use Rattle.record_reader.specs.InItems.{run_in}
use Rattle.recorder.specs.run_writer.Record.{record_with}

-- the input of a Run frame, and none of any other item
abbrev pub input_in : Item → List CycleInput
input_in item = map (λ run. run.input) (run_in item)

-- the inputs of all runs of a record
abbrev pub inputs : List ℕ → List CycleInput
inputs record_bytes = flat_map input_in (items_in record_bytes)

abbrev pub is_whole : List ℕ → Bool
is_whole record_bytes = is_none (fault_in record_bytes)

module _ {S G E L P : Type 0} (m : Meaning S G E L P) (profile : ProfileValue) where
  -- the record of a run over the inputs of a record, with Terminate where that is whole
  abbrev pub replay_record : List ℕ → List ℕ
  replay_record record_bytes = record_with m profile (inputs record_bytes) (is_whole record_bytes)
