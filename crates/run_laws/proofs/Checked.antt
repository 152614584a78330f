-- What `check` says of the records of `record` and of `demo`.
use Rattle.std.proofs.Common.{◌≡◌, ℕ, List, ◌++◌, length, Bool, true, false, None, refl, sym, ap, ◌∙◌, codes}
use Rattle.std.specs.List.{flat_map}
use Rattle.std.specs.Option.{unwrap_or}
use Rattle.det_values.specs.Values.{ProfileValue}
use Rattle.det_values.specs.declared.frames.CycleInput.{CycleInput}
use Rattle.det_values.specs.declared.job_kind.JobKind.{JobKind}
use Rattle.det_values.specs.declared.job_kind.JobKind.TheVariants.{Bank, Cloud, Guard}
use Rattle.job.specs.Meaning.{Meaning}
use Rattle.jobs.specs.bank.Meaning as bank
use Rattle.jobs.specs.cloud.Meaning as cloud
use Rattle.jobs.specs.guard.Meaning as guard
use Rattle.cycle_engine.specs.Frames.{frames}
use Rattle.stimulus.specs.Reading.{blocks, ending}
use Rattle.recorder.specs.Record.{is_terminated}
use Rattle.manifest.specs.Profiles.{profile_of}
use Rattle.manifest.specs.Meaning.{manifest_of}
use Rattle.cmd_run.specs.record_command.Outcomes.{demo_profile, demo_outcome, record_outcome}
use Rattle.probes.specs.Reports.{AudienceState, reported}
use Rattle.record_text.specs.Words.{number_line}
use Rattle.rerun.specs.checker.Departure.{run_of}
use Rattle.rerun.specs.checker.CheckVerdict.{verdict_by}
use Rattle.cli_answers.specs.declared.answer.Answer.TheVariants.{Done}
use Rattle.cli_answers.specs.Outcome.{Outcome}
use Rattle.cmd_rerun.specs.check_command.Check.{outcome_by, checked_with, check_outcome}
use Rattle.cmd_rerun.specs.check_command.CheckVisit.{checked}
use Rattle.run_laws.proofs.NamedRuns.{checked_by}
use Rattle.run_laws.specs.Statements.{IsRunRead, frames_by_kind, fault_if}
use Rattle.run_laws.specs.Checks.{checked_of, RecordIsChecked, DemoIsChecked}
use Rattle.run_laws.proofs.Commands.{is_taken, record_read, demo_read}
use Rattle.run_laws.proofs.Replayed.{IsOfKind, run_is}
use Rattle.run_laws.proofs.OfInputs.{run_verdict, run_checked, runs_counted}

abbrev is_ended : ProfileValue → List ℕ → Bool
is_ended profile stimulus = is_terminated (ending (length profile.events) stimulus)

-- genuine, with this number of cycles and these reports
abbrev genuine_text : ℕ → List ℕ → Outcome
genuine_text cycles reports = record { answer = Done; bytes = number_line (codes "genuine") cycles ++ reports }

module _ {S G E L P : Type 0} (m : Meaning S G E L P) (profile : ProfileValue) (audience : AudienceState) where
  -- the verdict on a run, as the command reports it
  told_of : (given : List CycleInput) (ended : Bool) (bytes : List ℕ)
      → outcome_by (verdict_by None (fault_if ended bytes) (length given))
      (reported audience (flat_map run_of (frames m profile given ended)))
      ≡ checked_of audience (frames m profile given ended) (fault_if ended bytes)
  told_of given true bytes =
      ap (λ (n : ℕ). genuine_text n (reported audience (flat_map run_of (frames m profile given true))))
      (sym (runs_counted m profile given true))
  told_of given false bytes = refl

  run_is_checked : (given : List CycleInput) (ended : Bool) (bytes : List ℕ) → IsRunRead profile (frames m profile given ended) ended bytes
      → checked_with m profile audience bytes ≡ checked_of audience (frames m profile given ended) (fault_if ended bytes)
  run_is_checked given ended bytes read =
      let verdict = run_verdict m profile given ended bytes read in
      let seen = run_checked m profile given ended bytes read in
      (λ i. outcome_by (verdict i) (reported audience (seen i))) ∙ told_of given ended bytes

-- the check of a record of a run, by the kind of its job
run_checked_same : (kind : JobKind) (profile : ProfileValue) (audience : AudienceState) (given : List CycleInput) (ended : Bool)
    (bytes : List ℕ) → IsRunRead profile (frames_by_kind kind profile given ended) ended bytes
    → checked kind profile audience bytes ≡ checked_of audience (frames_by_kind kind profile given ended) (fault_if ended bytes)
run_checked_same Bank profile audience given ended bytes h = run_is_checked bank.meaning profile audience given ended bytes h
run_checked_same Cloud profile audience given ended bytes h = run_is_checked cloud.meaning profile audience given ended bytes h
run_checked_same Guard profile audience given ended bytes h = run_is_checked guard.meaning profile audience given ended bytes h

pub kind_is_checked : (kind : JobKind) (profile : ProfileValue) → IsOfKind kind profile → (given : List CycleInput) (ended : Bool)
    (bytes : List ℕ) → IsRunRead profile (frames_by_kind kind profile given ended) ended bytes → (audience : AudienceState)
    → check_outcome audience bytes ≡ checked_of audience (frames_by_kind kind profile given ended) (fault_if ended bytes)
kind_is_checked kind profile of given ended bytes h audience =
    ap (checked_by audience bytes) (run_is kind profile _ bytes of h.items)
    ∙ run_checked_same kind profile audience given ended bytes h

pub record_is_checked : RecordIsChecked
record_is_checked strict manifest stimulus seed m small set =
    let taken = is_taken (manifest_of strict manifest) m set in
    let profile : ProfileValue = profile_of m (unwrap_or seed 0) in
    let bytes : List ℕ = (record_outcome strict manifest stimulus seed).bytes in
    kind_is_checked m.kind profile (record { number = refl; good = taken.good }) (blocks (length profile.events) stimulus)
    (is_ended profile stimulus) bytes (record_read strict manifest stimulus seed m small set)

pub demo_is_checked : DemoIsChecked
demo_is_checked stimulus =
    kind_is_checked Bank demo_profile (record { number = refl; good = refl }) (blocks (length demo_profile.events) stimulus)
    (is_ended demo_profile stimulus) (demo_outcome stimulus).bytes (demo_read stimulus)
