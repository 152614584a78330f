-- A run of the recorder meets the outcome of its profile and of its stimulus.
use Rattle.std.proofs.Common.{◌≡◌, ℕ, List, refl, sym, ap}
use Rattle.std.specs.Prelude.{true, Option, Some, Result, Ok, Err, IfSome}
use Rattle.det_io.specs.Count.{Rose}
use Rattle.det_io.specs.Shelf.{Reads}
use Rattle.det_io.specs.Sink.{GrewByPrefix}
use Rattle.det_io.specs.Traffic.{ShelfRun, SinkRun}
use Rattle.det_io.specs.declared.failure.Failure.TheVariants.{Read, Write, OutOfMemory}
use Rattle.det_io.specs.declared.failure.Stopped.{Stopped}
use Rattle.det_io.specs.declared.failure.Stopped.TheVariants.{Refused, Failed}
use Rattle.probes.specs.Reports.{AudienceState}
use Rattle.stimulus.specs.declared.stimulus_item.StimulusFault.{StimulusFault}
use Rattle.recorder.specs.declared.run_writer.counts.Counts.{Counts}
use Rattle.recorder.specs.Record.{record_of}
use Rattle.recorder.specs.RunEnds.{Finishes, Stops}
use Rattle.det_values.specs.Values.{ProfileValue}
use Rattle.job.specs.Meaning.{Meaning}
use Rattle.det_values.specs.declared.job_kind.JobKind.{JobKind}
use Rattle.jobs.specs.Kinds.{of_kind}
use Rattle.jobs.proofs.ByKinds.{by_kind-then, of_kind-gives}
use Rattle.cli_answers.specs.declared.answer.Answer.{Answer}
use Rattle.cli_answers.specs.declared.answer.Answer.TheVariants as answers
use Rattle.cli_answers.specs.Ends.{can_end}
use Rattle.cli_answers.specs.Outcome.{Meets}
use Rattle.cli_answers.proofs.AnswerMeets.{meets-read-fault-part, meets-write-fault, meets-no-memory-part}
use Rattle.run_setup.proofs.Meeting.{meets-known}
use Rattle.cmd_run.specs.record_command.Outcomes.{answer_to, stimulus_answer, recorded, recorded_by_kind, demo_work, record_work}
use Rattle.cmd_run.specs.StimulusVisit.{HasRecorded}

pub at-told : (left : Option (List ℕ)) (text : List ℕ) (P : List ℕ → Type 0) → left ≡ Some text → IfSome left P → P text
at-told left text P e p = rw e at p

module _ (text : List ℕ) (slot : ℕ) (shelf : ShelfRun) (sink : SinkRun) (audience last : AudienceState) (is_known rose : Type 0)
    (told : is_known → shelf.first.left slot ≡ Some text) (later : Rose shelf.first.faults shelf.last.faults → rose) where
  module _ {S G E L P : Type 0} (m : Meaning S G E L P) (profile : ProfileValue) where
    -- a fact about the text, where the shelf knows it
    at-text : (P : List ℕ → Type 0) → IfSome (shelf.first.left slot) P → is_known → P text
    at-text P known t = at-told (shelf.first.left slot) text P (told t) known

    abbrev Part : List ℕ → Type 0
    Part x = GrewByPrefix sink.before sink.after (record_of m profile x)

    -- a recording meets the outcome, by its end
    met-recorded : (result : Result Counts (Stopped StimulusFault)) → HasRecorded m profile slot shelf sink audience last result
        → Meets (recorded m profile text) is_known rose sink (stimulus_answer result)
    met-recorded (Ok counts) r =
        let finished = at-text (λ x. Finishes m profile x counts sink.before sink.after) r.recorded.ok in
        meets-known (recorded m profile text) is_known rose sink answers.Done (λ e. cc) (λ e. cc)
        (λ t. (ap answer_to (sym (finished t).good), (finished t).grew))
    met-recorded (Err (Refused fault)) r =
        let Is : StimulusFault → Type 0 = λ other. ◌≡◌ {A = Result Counts (Stopped StimulusFault)} (Err (Refused fault)) (Err
        (Refused other)) in
        let stopped = λ (t : is_known). at-text
        (λ x. (other : StimulusFault) → Is other → Stops m profile x other.line sink.before sink.after) r.recorded.stimulus t fault refl in
        meets-known (recorded m profile text) is_known rose sink (answers.BadStimulus fault.line) (λ e. cc) (λ e. cc)
        (λ t. (ap answer_to (sym (stopped t).bad), (stopped t).grew))
    met-recorded (Err (Failed Read)) r =
        meets-read-fault-part (recorded m profile text) is_known rose sink (at-text Part r.recorded.part)
        (later (r.shelf_traffic.cause refl))
    met-recorded (Err (Failed Write)) r =
        meets-write-fault (recorded m profile text) is_known rose sink (at-text Part r.recorded.part) (r.sink_traffic.cause refl)
    met-recorded (Err (Failed OutOfMemory)) r =
        meets-no-memory-part (recorded m profile text) is_known rose sink (at-text Part r.recorded.part)

  -- a recording with the job of a kind meets the outcome of that kind
  pub met-by-kind : (kind : JobKind) (profile : ProfileValue) (result : Result Counts (Stopped StimulusFault)) (answer : Answer)
      → answer ≡ stimulus_answer result
      → of_kind (λ S G E L P m. HasRecorded m profile slot shelf sink audience last result) kind
      → Meets (recorded_by_kind kind profile text) is_known rose sink answer
  met-by-kind kind profile result answer is visited =
      rw is (by_kind-then (λ S G E L P m. recorded m profile text)
      (λ S G E L P m. HasRecorded m profile slot shelf sink audience last result)
      (λ wanted. Meets wanted is_known rose sink (stimulus_answer result))
      (λ S G E L P m r. met-recorded m profile result r) kind visited)

-- all that was read was of one slot
abbrev pub ReadsOf : ShelfRun → ℕ → Type 0
ReadsOf shelf slot = (read : List ℕ) × Reads shelf.first shelf.last slot read

pub reads-by-kind : (kind : JobKind) (profile : ProfileValue) (slot : ℕ) (shelf : ShelfRun) (sink : SinkRun)
    (audience last : AudienceState) (result : Result Counts (Stopped StimulusFault))
    → of_kind (λ S G E L P m. HasRecorded m profile slot shelf sink audience last result) kind → ReadsOf shelf slot
reads-by-kind kind profile slot shelf sink audience last result visited =
    of_kind-gives (λ S G E L P m. HasRecorded m profile slot shelf sink audience last result) (ReadsOf shelf slot)
    (λ S G E L P m r. (r.recorded.run.0, r.recorded.run.1)) kind visited

-- what ends `demo` ends `record`
pub ends-record : (answer : Answer) → can_end demo_work answer ≡ true → can_end record_work answer ≡ true
ends-record answers.Done ends = refl
ends-record answers.Differs ends = ends
ends-record answers.BadWords ends = ends
ends-record (answers.BadManifest why) ends = refl
ends-record (answers.BadStimulus line) ends = refl
ends-record (answers.BadRecord copy fault) ends = ends
ends-record answers.BadProfile ends = ends
ends-record answers.ReadFault ends = refl
ends-record answers.WriteFault ends = refl
ends-record answers.OutOfMemory ends = refl
ends-record (answers.NoMajority row) ends = ends
