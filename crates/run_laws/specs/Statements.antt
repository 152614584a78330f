-- What the record of a run is read as, what `show` prints of it, and what `replay` gives.
use Rattle.std.specs.Prelude.{◌≡◌, ℕ, ◌^◌, ◌<◌, List, length, Bool, true, false, Option, Some, None}
use Rattle.std.specs.Prelude.{Ok}
use Rattle.std.specs.Option.{unwrap_or}
use Rattle.det_values.specs.declared.frames.CycleInput.{CycleInput}
use Rattle.det_values.specs.declared.frames.Frame.{Frame}
use Rattle.det_values.specs.declared.job_kind.JobKind.{JobKind}
use Rattle.det_values.specs.Values.{ProfileValue}
use Rattle.jobs.specs.bank.Meaning as bank
use Rattle.jobs.specs.Kinds.{by_kind}
use Rattle.cycle_engine.specs.Frames.{frames}
use Rattle.record_grammar.specs.declared.record_fault.Reason.TheVariants.{Truncated}
use Rattle.record_grammar.specs.declared.record_fault.RecordFault.{RecordFault}
use Rattle.record_grammar.specs.Record.{items, fault}
use Rattle.record_grammar.specs.Laws.{items_of}
use Rattle.stimulus.specs.Reading.{blocks, ending}
use Rattle.recorder.specs.Record.{is_terminated}
use Rattle.manifest.specs.Values.{ManifestValue}
use Rattle.manifest.specs.Profiles.{profile_of}
use Rattle.run_setup.specs.Setup.{setup_of}
use Rattle.cmd_run.specs.record_command.Outcomes.{demo_profile, demo_outcome, record_outcome}
use Rattle.probes.specs.Reports.{AudienceState}
use Rattle.cmd_records.specs.declared.record_show.show_form.ShowForm.{ShowForm}
use Rattle.cmd_records.specs.record_show.Text.{text_from}
use Rattle.cli_answers.specs.Outcome.{Outcome}
use Rattle.cli_answers.specs.Answers.{by_fault}
use Rattle.cmd_records.specs.show_command.Show.{show_outcome}
use Rattle.cmd_rerun.specs.replay_command.Replay.{replay_outcome}

-- the frames of a run, by the kind of its job
abbrev pub frames_by_kind : JobKind → ProfileValue → List CycleInput → Bool → List Frame
frames_by_kind kind profile = by_kind (λ S G E L P m. frames m profile) kind

-- what is said of a profile, of its run over any inputs, of a stimulus, and of the record's bytes
abbrev pub RecordLaw : Type 1
RecordLaw = ProfileValue → (List CycleInput → Bool → List Frame) → List ℕ → List ℕ → Type 0

-- said of what `record` writes for each manifest that is accepted; the seed is 0 if none is given
abbrev pub OfRecord : RecordLaw → Type 0
OfRecord Law =
    (strict : Bool) (manifest stimulus : List ℕ) (seed : Option ℕ) (m : ManifestValue)
    → unwrap_or seed 0 < 2 ^ 64 → setup_of strict manifest ≡ Ok m
    → Law (profile_of m (unwrap_or seed 0))
    (frames_by_kind m.kind (profile_of m (unwrap_or seed 0))) stimulus
    (record_outcome strict manifest stimulus seed).bytes

-- said of what `demo` writes
abbrev pub OfDemo : RecordLaw → Type 0
OfDemo Law =
    (stimulus : List ℕ)
    → Law demo_profile (frames bank.meaning demo_profile) stimulus (demo_outcome stimulus).bytes

-- the record of a run that ended has no fault, and that of any other run is only truncated
abbrev pub fault_if : Bool → List ℕ → Option RecordFault
fault_if true bytes = None
fault_if false bytes = Some (record { offset = length bytes; reason = Truncated })

-- bytes are read as a profile and the frames of a run, and as nothing else
pub record IsRunRead (profile : ProfileValue) (run : List Frame) (ended : Bool) (bytes : List ℕ)
    : Type 0 where
  pub items : items bytes ≡ items_of profile run
  pub fault : fault bytes ≡ fault_if ended bytes

-- the same for the run over the blocks of a stimulus, ended if the stimulus is
abbrev pub IsRecordRead : RecordLaw
IsRecordRead profile run stimulus bytes =
    let ended : Bool = is_terminated (ending (length profile.events) stimulus) in
    IsRunRead profile (run (blocks (length profile.events) stimulus) ended) ended bytes

-- what `record` writes, if the manifest is accepted
abbrev pub RecordIsRead : Type 0
RecordIsRead = OfRecord IsRecordRead

-- what `demo` writes
abbrev pub DemoIsRead : Type 0
DemoIsRead = OfDemo IsRecordRead

-- What `show` gives for the record of a run: the lines of its profile and of its frames, or those of
-- a part. If the run ended, what an audience reports of its cycles comes after them.
abbrev pub shown_of : ShowForm → AudienceState → ProfileValue → List Frame → Option RecordFault
    → Outcome
shown_of form audience profile run end = record {
  answer = by_fault end;
  bytes = text_from form audience (items_of profile run) end;
}

-- the same for the run over the blocks of a stimulus
abbrev pub IsRecordShown : RecordLaw
IsRecordShown profile run stimulus bytes =
    let ended : Bool = is_terminated (ending (length profile.events) stimulus) in
    (form : ShowForm) (audience : AudienceState) → show_outcome form audience bytes
    ≡ shown_of form audience profile (run (blocks (length profile.events) stimulus) ended)
    (fault_if ended bytes)

-- what `show` gives for what `record` writes, if the manifest is accepted
abbrev pub RecordIsShown : Type 0
RecordIsShown = OfRecord IsRecordShown

-- and for what `demo` writes
abbrev pub DemoIsShown : Type 0
DemoIsShown = OfDemo IsRecordShown

-- the same bytes again, and the answer by this fault
abbrev pub given_again : List ℕ → Option RecordFault → Outcome
given_again bytes end = record { answer = by_fault end; bytes = bytes }

-- What `replay` gives for the record of a stimulus: that record. It is done if the stimulus is
-- whole.
abbrev pub IsRecordReplayed : ProfileValue → List ℕ → List ℕ → Type 0
IsRecordReplayed profile stimulus bytes =
    let ended : Bool = is_terminated (ending (length profile.events) stimulus) in
    replay_outcome bytes ≡ given_again bytes (fault_if ended bytes)

-- what `replay` gives for what `record` writes, if the manifest is accepted
abbrev pub RecordIsReplayed : Type 0
RecordIsReplayed = OfRecord (λ profile run. IsRecordReplayed profile)

-- and for what `demo` writes
abbrev pub DemoIsReplayed : Type 0
DemoIsReplayed = OfDemo (λ profile run. IsRecordReplayed profile)
