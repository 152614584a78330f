-- What the rest of a record gives is what the whole record does.
use Rattle.std.proofs.Common.{◌≡◌, ◌≤◌, ℕ, List, [], ◌∷◌, refl}
use Rattle.std.specs.Prelude.{Option, Some, IfSome, IsSome, Result, Ok, Err}
use Rattle.det_values.specs.Values.{ProfileValue}
use Rattle.det_io.specs.Count.{Rose}
use Rattle.det_io.specs.Shelf.{ShelfState, Reads}
use Rattle.det_io.specs.Sink.{GrewByPrefix}
use Rattle.det_io.specs.Traffic.{ShelfRun, SinkRun, failure_in, IfRefused}
use Rattle.det_io.specs.declared.failure.Failure.{Failure}
use Rattle.det_io.specs.declared.failure.Failure.TheVariants.{Read, Write, OutOfMemory}
use Rattle.det_io.specs.declared.failure.Stopped.{Stopped}
use Rattle.det_io.proofs.Counts.{rose-before}
use Rattle.record_reader.specs.declared.frame_reader.FrameReader.{FrameReader}
use Rattle.record_reader.specs.Frames.{slot_of}
use Rattle.cli_answers.specs.declared.answer.Answer.{Answer}
use Rattle.cli_answers.specs.declared.answer.Answer.TheVariants as answers
use Rattle.cli_answers.specs.Answers.{failed}
use Rattle.cli_answers.specs.Ends.{Work}
use Rattle.cli_answers.specs.Outcome.{Outcome, Meets, KnowsBytes, known_bytes, refusal}
use Rattle.cli_answers.proofs.AnswerMeets.{unwritten, meets-no-memory}
use Rattle.cli_answers.proofs.AnswerMeets.{meets-read-fault-part, meets-write-fault, meets-no-memory-part}
use Rattle.run_setup.specs.declared.recorded_run.bad_run.BadRun.{BadRun}
use Rattle.run_setup.specs.declared.recorded_run.open_run.RecordedRun.{RecordedRun}
use Rattle.run_setup.specs.recorded_run.Run.{RunValue, run_of, refused, bad_run_answer}
use Rattle.run_setup.specs.recorded_run.OpenedRun.{HasBegun}
use Rattle.run_setup.proofs.lemmas.recorded_run.Beginning.{meets-told, if-refused}
use Rattle.run_setup.proofs.lemmas.recorded_run.Ending.{meets-end}
use Rattle.run_setup.proofs.lemmas.recorded_run.Resting.{rest}
use Rattle.cmd_rerun.specs.Rest.{IsRerun}

pub at-told : (left : Option (List ℕ)) (rest : List ℕ) (P : List ℕ → Type 0) → left ≡ Some rest → IfSome left P → P rest
at-told left rest P e p = rw e at p

-- memory couldn't be had, and nothing was read or written
pub rerun-no-memory : (wanted : List ℕ → Outcome) (work : Work) (header : ProfileValue) (frames : FrameReader) (shelf : ShelfRun)
    (before : List ℕ → Type 0) (m n : ℕ) → Reads shelf.first shelf.last (slot_of frames) []
    → IsRerun wanted work header frames shelf (unwritten before m n) answers.OutOfMemory
rerun-no-memory wanted work header frames shelf before m n none = record {
  meets = λ read rest stands. meets-no-memory _ _ _ before m n;
  ends = refl;
  reads = λ read stands. ([], none);
}

-- a read or a write failed, or memory couldn't be had; a part of the outcome was written
pub meets-failed : (wanted : Outcome) (is_known rose : Type 0) (out : SinkRun) (failure : Failure)
    → (is_known → GrewByPrefix out.before out.after wanted.bytes) → (Some failure ≡ Some Read → rose)
    → (Some failure ≡ Some Write → Rose out.faults_before out.faults_after) → Meets wanted is_known rose out (failed failure)
meets-failed wanted is_known rose out Read part reads writes = meets-read-fault-part wanted is_known rose out part (reads refl)
meets-failed wanted is_known rose out Write part reads writes = meets-write-fault wanted is_known rose out part (writes refl)
meets-failed wanted is_known rose out OutOfMemory part reads writes = meets-no-memory-part wanted is_known rose out part

-- `wanted` is the command's outcome of the bytes of a record, by the run that its header names
pub meets-rerun : (wanted : List ℕ → Result RunValue BadRun → Outcome) {first : ShelfState} {name : List ℕ} {run : RecordedRun}
    {work : Work} (shelf : ShelfRun) (out : SinkRun) (answer : Answer) (begun : HasBegun first shelf.first name run)
    → (IsSome (first.holds name) → run_of (known_bytes first name) ≡ Ok (record { kind = run.kind; profile = run.profile }))
    → first.faults ≤ shelf.first.faults
    → IsRerun (λ bytes. wanted bytes (Ok (record { kind = run.kind; profile = run.profile }))) work run.profile run.frames shelf out answer
    → Meets (wanted (known_bytes first name) (run_of (known_bytes first name))) (KnowsBytes first (name ∷ []))
    (Rose first.faults shelf.last.faults) out answer
meets-rerun wanted {first} shelf out answer begun is counted met =
    meets-told wanted begun is (Rose shelf.first.faults shelf.last.faults) (Rose first.faults shelf.last.faults) out answer
    (rose-before first.faults shelf.first.faults shelf.last.faults counted) (met.meets begun.read (rest begun) begun.gave)

-- there is no run, and nothing was written
pub meets-no-run : (wanted : List ℕ → Result RunValue BadRun → Outcome)
    → ((bytes : List ℕ) (why : BadRun) → wanted bytes (Err why) ≡ refusal (refused why)) → (first last : ShelfState) (name : List ℕ)
    (before : List ℕ → Type 0) (m n : ℕ) (end : Stopped BadRun)
    → IfRefused end (λ why. IsSome (first.holds name) → run_of (known_bytes first name) ≡ Err why)
    → (failure_in {A = RunValue} (Err end) ≡ Some Read → Rose first.faults last.faults)
    → (failure_in {A = RunValue} (Err end) ≡ Some Write → ⊥)
    → Meets (wanted (known_bytes first name) (run_of (known_bytes first name))) (KnowsBytes first (name ∷ []))
    (Rose first.faults last.faults) (unwritten before m n) (bad_run_answer end)
meets-no-run wanted refuses first last name before m n end bad read write =
    let bytes = known_bytes first name in
    meets-end (wanted bytes) (refuses bytes) bytes (KnowsBytes first (name ∷ [])) (Rose first.faults last.faults) before m n end
    (if-refused first name end bad) read write
