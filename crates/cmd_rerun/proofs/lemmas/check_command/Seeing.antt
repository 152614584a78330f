-- What an audience has seen of a record that was checked.
use Rattle.std.proofs.Common.{◌≡◌, ◌≢◌, ℕ, List, [], ◌∷◌, ◌++◌, refl, sym, subst, ◌∙◌}
use Rattle.std.specs.Prelude.{Some, Result, Ok, Err}
use Rattle.det_values.specs.Values.{ProfileValue}
use Rattle.det_values.specs.declared.frames.RunFrame.{RunFrame}
use Rattle.det_values.specs.declared.job_kind.JobKind.{JobKind}
use Rattle.det_io.specs.Traffic.{ShelfRun, SinkRun}
use Rattle.det_io.specs.declared.failure.Failure.TheVariants as failures
use Rattle.det_io.specs.declared.failure.Stopped.{Stopped}
use Rattle.det_io.specs.declared.failure.Stopped.TheVariants.{Refused, Failed}
use Rattle.det_io.proofs.Prefixes.{prefix-none, prefix-same}
use Rattle.job.specs.Meaning.{Meaning}
use Rattle.jobs.specs.Kinds.{of_kind}
use Rattle.jobs.proofs.ByKinds.{by_kind-then}
use Rattle.record_grammar.specs.declared.record_fault.RecordFault.{RecordFault}
use Rattle.record_grammar.specs.declared.item.Item.TheVariants.{Header}
use Rattle.record_reader.specs.declared.frame_reader.FrameReader.{FrameReader}
use Rattle.record_reader.specs.Frames.{StandsFor, slot_of}
use Rattle.probes.specs.Reports.{AudienceState, reported}
use Rattle.probes.proofs.Shown.{all-told}
use Rattle.probes.specs.Shows.{SawRuns}
use Rattle.copies.specs.declared.check_verdict.CheckVerdict.{CheckVerdict}
use Rattle.rerun.specs.checker.Departure.{checked_runs}
use Rattle.cli_answers.specs.declared.answer.Answer.{Answer}
use Rattle.cli_answers.specs.declared.answer.Answer.TheVariants.{OutOfMemory}
use Rattle.cli_answers.specs.Answers.{stopped}
use Rattle.det_io.specs.Shelf.{ShelfState}
use Rattle.run_setup.specs.declared.recorded_run.bad_run.BadRun.{BadRun}
use Rattle.run_setup.specs.declared.recorded_run.open_run.RecordedRun.{RecordedRun}
use Rattle.run_setup.specs.recorded_run.OpenedRun.{HasBegun}
use Rattle.run_setup.specs.recorded_run.Run.{RunValue, run_of, over_run}
use Rattle.run_setup.proofs.lemmas.recorded_run.Resting.{rest}
use Rattle.cmd_rerun.specs.check_command.Check.{runs_checked, SawFirst}
use Rattle.cmd_rerun.specs.check_command.CheckVisit.{runs_by_kind}
use Rattle.cmd_rerun.specs.check_command.CheckVisit.{HasChecked}
use Rattle.cmd_rerun.proofs.lemmas.check_command.Meeting.{answers, no-write}

-- nobody was shown anything
pub saw-none : (audience : AudienceState) (runs : List RunFrame) → SawFirst audience audience runs
saw-none audience runs = record { seen = []; first = prefix-none runs; saw = refl }

module _ {S G E L P : Type 0} (m : Meaning S G E L P) (profile : ProfileValue) (frames : FrameReader) (read : List ℕ)
    (stands : StandsFor frames read (Header profile ∷ [])) (shelf : ShelfRun) (sink : SinkRun) (old now : AudienceState) where
  abbrev runs : List ℕ → List RunFrame
  runs rest = checked_runs m profile (read ++ rest)

  -- the audience has seen all runs that are checked
  saw-all : (last : AudienceState) (rest : List ℕ) → SawRuns old last (runs rest) → SawFirst old last (runs rest)
  saw-all last rest saw = record { seen = runs rest; first = prefix-same (runs rest); saw = saw }

  saw-told : (verdict : CheckVerdict) (rest : List ℕ) (last : AudienceState) → last.seeing ≡ [] → last.left ≡ reported now []
      → HasChecked m profile frames shelf sink old now (Ok verdict) → shelf.first.left (slot_of frames) ≡ Some rest
      → SawFirst old last (runs rest)
  saw-told verdict rest last none left h told =
      saw-all last rest
      (all-told last none ∙ left ∙ (answers m profile frames read stands shelf sink old now (Ok verdict) rest h told).1)

  saw-stopped : (stop : Stopped RecordFault) (rest : List ℕ) → stopped stop ≢ OutOfMemory
      → HasChecked m profile frames shelf sink old now (Err stop) → shelf.first.left (slot_of frames) ≡ Some rest
      → SawFirst old now (runs rest)
  saw-stopped (Refused fault) rest ne h told =
      saw-all now rest (answers m profile frames read stands shelf sink old now (Err (Refused fault)) rest h told).1
  saw-stopped (Failed failures.Read) rest ne h told =
      let a = answers m profile frames read stands shelf sink old now (Err (Failed failures.Read)) rest h told in
      record { seen = a.seen; first = a.first; saw = a.saw }
  saw-stopped (Failed failures.Write) rest ne h told = absurd (no-write m profile frames read stands shelf sink old now h)
  saw-stopped (Failed failures.OutOfMemory) rest ne h told = absurd (ne refl)

-- with the job of a kind
module _ (kind : JobKind) (profile : ProfileValue) (frames : FrameReader) (read : List ℕ)
    (stands : StandsFor frames read (Header profile ∷ [])) (shelf : ShelfRun) (sink : SinkRun) (old now : AudienceState)
    (result : Result CheckVerdict (Stopped RecordFault))
    (visited : of_kind (λ S G E L P m. HasChecked m profile frames shelf sink old now result) kind) where
  -- it has seen all runs that are checked, and reported
  pub saw-verdict : (verdict : CheckVerdict) (rest : List ℕ) (last : AudienceState) → result ≡ Ok verdict → last.seeing ≡ []
      → last.left ≡ reported now [] → shelf.first.left (slot_of frames) ≡ Some rest
      → SawFirst old last (runs_by_kind kind profile (read ++ rest))
  saw-verdict verdict rest last is none left told =
      by_kind-then (λ S G E L P m. checked_runs m profile (read ++ rest))
      (λ S G E L P m. HasChecked m profile frames shelf sink old now result) (λ runs. SawFirst old last runs)
      (λ S G E L P m h. saw-told m profile frames read stands shelf sink old now verdict rest last none left
      (subst (λ (r : Result CheckVerdict (Stopped RecordFault)). HasChecked m profile frames shelf sink old now r) is h) told) kind visited

  -- it has seen those before the end
  pub saw-stop : (stop : Stopped RecordFault) (rest : List ℕ) (answer : Answer) → result ≡ Err stop → answer ≡ stopped stop
      → answer ≢ OutOfMemory → shelf.first.left (slot_of frames) ≡ Some rest
      → SawFirst old now (runs_by_kind kind profile (read ++ rest))
  saw-stop stop rest answer is answered ne told =
      by_kind-then (λ S G E L P m. checked_runs m profile (read ++ rest))
      (λ S G E L P m. HasChecked m profile frames shelf sink old now result) (λ runs. SawFirst old now runs)
      (λ S G E L P m h. saw-stopped m profile frames read stands shelf sink old now stop rest (λ e. ne (answered ∙ e))
      (subst (λ (r : Result CheckVerdict (Stopped RecordFault)). HasChecked m profile frames shelf sink old now r) is h) told) kind visited

-- what it has seen of the rest of a record is what it has seen of the whole
pub saw-whole : {first last : ShelfState} {name : List ℕ} {run : RecordedRun} (begun : HasBegun first last name run)
    (old now : AudienceState) (record_bytes : List ℕ) → run_of record_bytes ≡ Ok (record { kind = run.kind; profile = run.profile })
    → begun.read ++ rest begun ≡ record_bytes → SawFirst old now (runs_by_kind run.kind run.profile (begun.read ++ rest begun))
    → SawFirst old now (runs_checked record_bytes)
saw-whole {run = run} begun old now record_bytes is all saw =
    subst (λ (r : Result RunValue BadRun). SawFirst old now
    (over_run (λ S G E L P m profile. checked_runs m profile record_bytes) (λ why. []) r)) (sym is)
    (subst (λ (bytes : List ℕ). SawFirst old now (runs_by_kind run.kind run.profile bytes)) all saw)
