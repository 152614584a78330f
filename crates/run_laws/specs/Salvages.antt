-- What `salvage` makes of a record.
use Rattle.std.specs.Prelude.{◌≡◌, ℕ, ◌↔◌, List, [], ◌∷◌, ◌++◌, length, Bool, true, None}
use Rattle.std.specs.List.{flat_map, list_any}
use Rattle.det_values.specs.declared.frames.CycleInput.{CycleInput}
use Rattle.det_values.specs.declared.frames.Frame.{Frame}
use Rattle.det_values.specs.declared.frames.Frame.TheVariants.{Terminate}
use Rattle.det_values.specs.Values.{ProfileValue}
use Rattle.record_grammar.specs.declared.item.Item.{Item}
use Rattle.record_grammar.specs.declared.item.Item.TheVariants as items
use Rattle.record_grammar.specs.Record.{items as items_in, fault}
use Rattle.record_grammar.specs.Spelling.{AreBytes, spelled}
use Rattle.record_grammar.specs.Laws.{items_of}
use Rattle.record_reader.specs.Salvaged.{kept, is_init}
use Rattle.record_reader.specs.InItems.{runs_in}
use Rattle.stimulus.specs.Reading.{blocks, ending}
use Rattle.recorder.specs.Record.{is_terminated}
use Rattle.cli_answers.specs.declared.answer.Answer.TheVariants.{Done}
use Rattle.cmd_records.specs.salvage_command.Salvage.{salvage_outcome}
use Rattle.run_laws.specs.Statements.{OfRecord, OfDemo}

-- the header and the frames of these items, ended by Terminate
abbrev pub ended : List Item → List Item
ended (items.Header profile ∷ rest) = items_of profile (flat_map kept rest ++ Terminate ∷ [])
ended other = []

-- `salvage` is done exactly if Init was read
abbrev pub InitIsEnough : Type 0
InitIsEnough = (record_bytes : List ℕ) → AreBytes record_bytes
    → ((salvage_outcome record_bytes).answer ≡ Done)
    ↔ (list_any is_init (items_in record_bytes) ≡ true)

-- a whole record of the header and the frames of another one's items, and so of the same runs
pub record IsMadeWhole (record_bytes whole : List ℕ) : Type 0 where
  pub sound : fault whole ≡ None
  pub items : items_in whole ≡ ended (items_in record_bytes)
  pub runs : runs_in (items_in whole) ≡ runs_in (items_in record_bytes)

-- what it gives if it is done
abbrev pub SalvagedIsWhole : Type 0
SalvagedIsWhole = (record_bytes : List ℕ) → AreBytes record_bytes
    → (salvage_outcome record_bytes).answer ≡ Done
    → IsMadeWhole record_bytes (salvage_outcome record_bytes).bytes

-- a whole record comes out unchanged
abbrev pub WholeIsKept : Type 0
WholeIsKept = (record_bytes : List ℕ) → AreBytes record_bytes → fault record_bytes ≡ None
    → salvage_outcome record_bytes ≡ record { answer = Done; bytes = record_bytes }

-- What `salvage` gives for the record of a stimulus: the record of the run over its blocks, ended.
-- If no bad line ended the stimulus, this is the record itself.
pub record IsRecordSalvaged (profile : ProfileValue) (run : List CycleInput → Bool → List Frame)
    (stimulus bytes : List ℕ) : Type 0 where
  pub ended : salvage_outcome bytes ≡ record {
    answer = Done;
    bytes = spelled profile (run (blocks (length profile.events) stimulus) true);
  }
  pub same : is_terminated (ending (length profile.events) stimulus) ≡ true
      → salvage_outcome bytes ≡ record { answer = Done; bytes = bytes }

-- what `salvage` gives for what `record` writes, if the manifest is accepted
abbrev pub RecordIsSalvaged : Type 0
RecordIsSalvaged = OfRecord IsRecordSalvaged

-- and for what `demo` writes
abbrev pub DemoIsSalvaged : Type 0
DemoIsSalvaged = OfDemo IsRecordSalvaged
