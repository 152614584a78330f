-- What `check` says of the record of a run, when it is done, and what `upgrade` makes of a genuine
-- record.
use Rattle.std.specs.Prelude.{◌≡◌, ℕ, ◌↔◌, List, ◌++◌, length, Bool, Option, Some, None, codes}
use Rattle.std.specs.List.{flat_map}
use Rattle.det_values.specs.declared.format.Format.TheVariants.{Two}
use Rattle.det_values.specs.declared.frames.Frame.{Frame}
use Rattle.record_grammar.specs.declared.record_fault.RecordFault.{RecordFault}
use Rattle.record_grammar.specs.Record.{items}
use Rattle.record_grammar.specs.Spelling.{AreBytes}
use Rattle.stimulus.specs.Reading.{blocks, ending}
use Rattle.recorder.specs.Record.{is_terminated}
use Rattle.probes.specs.Reports.{AudienceState, reported}
use Rattle.record_text.specs.Words.{number_line}
use Rattle.cmd_records.specs.record_show.Text.{format_in}
use Rattle.rerun.specs.replayer.ReplayRecord.{inputs}
use Rattle.rerun.specs.checker.Departure.{run_of}
use Rattle.cli_answers.specs.declared.answer.Answer.TheVariants.{Done, BadRecord}
use Rattle.cli_answers.specs.Outcome.{Outcome, refusal}
use Rattle.cmd_rerun.specs.replay_command.Replay.{replay_outcome}
use Rattle.cmd_rerun.specs.check_command.Check.{check_outcome}
use Rattle.cmd_rerun.specs.upgrade_command.Upgrade.{upgrade_outcome}
use Rattle.run_laws.specs.Statements.{RecordLaw, OfRecord, OfDemo, fault_if, given_again}

-- What `check` gives for the record of a run. If the run ended, this is `genuine` with the number
-- of its cycles, and what an audience reports of them; or else the fault at its end.
abbrev pub checked_of : AudienceState → List Frame → Option RecordFault → Outcome
checked_of audience run None = record {
  answer = Done;
  bytes = number_line (codes "genuine") (length (flat_map run_of run))
      ++ reported audience (flat_map run_of run);
}
checked_of audience run (Some fault) = refusal (BadRecord 0 fault)

-- the same for the run over the blocks of a stimulus
abbrev pub IsRecordChecked : RecordLaw
IsRecordChecked profile run stimulus bytes =
    let ended : Bool = is_terminated (ending (length profile.events) stimulus) in
    (audience : AudienceState) → check_outcome audience bytes
    ≡ checked_of audience (run (blocks (length profile.events) stimulus) ended)
    (fault_if ended bytes)

-- what `check` gives for what `record` writes, if the manifest is accepted
abbrev pub RecordIsChecked : Type 0
RecordIsChecked = OfRecord IsRecordChecked

-- and for what `demo` writes
abbrev pub DemoIsChecked : Type 0
DemoIsChecked = OfDemo IsRecordChecked

-- `check` is done for these bytes
abbrev pub IsGenuine : AudienceState → List ℕ → Type 0
IsGenuine audience record_bytes = (check_outcome audience record_bytes).answer ≡ Done

-- bytes are genuine exactly if `replay` is done and writes them again
abbrev pub GenuineIsReplayed : Type 0
GenuineIsReplayed = (audience : AudienceState) (record_bytes : List ℕ) → AreBytes record_bytes
    → IsGenuine audience record_bytes
    ↔ (replay_outcome record_bytes ≡ given_again record_bytes None)

-- `upgrade` is done, and its output has the same inputs, is in format 2 and is genuine
pub record IsUpgraded (audience : AudienceState) (record_bytes : List ℕ) : Type 0 where
  pub done : (upgrade_outcome record_bytes).answer ≡ Done
  pub inputs : inputs (upgrade_outcome record_bytes).bytes ≡ inputs record_bytes
  pub format : format_in (items (upgrade_outcome record_bytes).bytes) ≡ Two
  pub genuine : IsGenuine audience (upgrade_outcome record_bytes).bytes

-- what `upgrade` makes of a genuine record
abbrev pub GenuineIsUpgraded : Type 0
GenuineIsUpgraded = (audience : AudienceState) (record_bytes : List ℕ) → AreBytes record_bytes
    → IsGenuine audience record_bytes → IsUpgraded audience record_bytes

-- a genuine record in format 2 stays as it is
abbrev pub FormatTwoStays : Type 0
FormatTwoStays = (audience : AudienceState) (record_bytes : List ℕ) → AreBytes record_bytes
    → IsGenuine audience record_bytes → format_in (items record_bytes) ≡ Two
    → (upgrade_outcome record_bytes).bytes ≡ record_bytes
