-- What checking by a crew ensures of its result.
use Rattle.std.specs.Prelude.{◌≡◌, ℕ, List, [], ◌∷◌, Result}
use Rattle.det_values.specs.Values.{ProfileValue}
use Rattle.det_values.specs.declared.frames.RunFrame.{RunFrame}
use Rattle.det_values.specs.declared.job_kind.JobKind.{JobKind}
use Rattle.det_io.specs.Sink.{Same}
use Rattle.det_io.specs.Traffic.{ShelfRun, SinkRun, ShelfTraffic, failure_in}
use Rattle.det_io.specs.declared.failure.Stopped.{Stopped}
use Rattle.job.specs.Meaning.{Meaning}
use Rattle.jobs.specs.Kinds.{by_kind}
use Rattle.record_grammar.specs.declared.record_fault.RecordFault.{RecordFault}
use Rattle.record_grammar.specs.declared.item.Item.TheVariants.{Header}
use Rattle.record_reader.specs.declared.frame_reader.FrameReader.{FrameReader}
use Rattle.record_reader.specs.Frames.{StandsFor, slot_of}
use Rattle.probes.specs.Reports.{AudienceState}
use Rattle.copies.specs.declared.check_verdict.CheckVerdict.{CheckVerdict}
use Rattle.rerun.specs.checker.CheckRun.{IsChecked}
use Rattle.rerun.specs.checker.Departure.{checked_runs}
use Rattle.cli_answers.specs.Outcome.{Outcome}
use Rattle.cmd_rerun.specs.check_command.Check.{checked_with}

-- what the bytes of a record give with the job of a kind, and the runs that are checked
abbrev pub checked : JobKind → ProfileValue → AudienceState → List ℕ → Outcome
checked kind profile audience record_bytes =
    by_kind (λ S G E L P m. checked_with m profile audience record_bytes) kind

abbrev pub runs_by_kind : JobKind → ProfileValue → List ℕ → List RunFrame
runs_by_kind kind profile record_bytes =
    by_kind (λ S G E L P m. checked_runs m profile record_bytes) kind

-- nothing was written
pub record IsUntouched (sink : SinkRun) : Type 0 where
  pub took : Same sink.before sink.after
  pub faults : sink.faults_after ≡ sink.faults_before

-- the rest of the record was checked, after the bytes that the reader had read
pub record HasChecked {S G E L P : Type 0} (m : Meaning S G E L P) (profile : ProfileValue)
    (frames : FrameReader) (shelf : ShelfRun) (sink : SinkRun) (old now : AudienceState)
    (result : Result CheckVerdict (Stopped RecordFault)) : Type 0 where
  pub checked : (read : List ℕ) → StandsFor frames read (Header profile ∷ [])
      → IsChecked m profile old now read (slot_of frames) shelf result
  pub traffic : ShelfTraffic shelf (failure_in result)
  pub untouched : IsUntouched sink
