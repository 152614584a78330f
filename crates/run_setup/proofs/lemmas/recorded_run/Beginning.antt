-- A command that runs the job of the record under a name meets its outcome of the bytes there.
use Rattle.std.proofs.Common.{◌≡◌, ℕ, List, [], ◌∷◌, ◌++◌, sym, ap, ◌∙◌, arith}
use Rattle.std.specs.Prelude.{Result, Ok, Err, Some, IsSome}
use Rattle.det_io.specs.Shelf.{ShelfState}
use Rattle.det_io.specs.Traffic.{SinkRun, IfRefused}
use Rattle.det_io.specs.declared.failure.Stopped.{Stopped}
use Rattle.det_io.specs.declared.failure.Stopped.TheVariants.{Refused, Failed}
use Rattle.record_reader.specs.Frames.{slot_of}
use Rattle.cli_answers.specs.declared.answer.Answer.{Answer}
use Rattle.cli_answers.specs.Outcome.{Outcome, Meets, KnowsBytes, known_bytes}
use Rattle.run_setup.specs.declared.recorded_run.bad_run.BadRun.{BadRun}
use Rattle.run_setup.specs.declared.recorded_run.open_run.RecordedRun.{RecordedRun}
use Rattle.run_setup.specs.recorded_run.Run.{RunValue, run_of}
use Rattle.run_setup.specs.recorded_run.OpenedRun.{HasBegun}
use Rattle.run_setup.proofs.Meeting.{meets-as}
use Rattle.run_setup.proofs.lemmas.recorded_run.Resting.{rest, rest-told}

pub is_known-name : (shelf : ShelfState) (name : List ℕ) → KnowsBytes shelf (name ∷ []) → IsSome (shelf.holds name)
is_known-name shelf name t = t 0 name (omega arith)

-- what the header names
abbrev as_run : RecordedRun → Result RunValue BadRun
as_run run = Ok (record { kind = run.kind; profile = run.profile })

-- `wanted` is the command's outcome of the bytes of a record, by the run that its header names
module _ (wanted : List ℕ → Result RunValue BadRun → Outcome) {first mid : ShelfState} {name : List ℕ} {run : RecordedRun}
    (begun : HasBegun first mid name run) (is : IsSome (first.holds name) → run_of (known_bytes first name) ≡ as_run run) where
  outcome-is : IsSome (first.holds name)
      → wanted (known_bytes first name) (run_of (known_bytes first name)) ≡ wanted (begun.read ++ rest begun) (as_run run)
  outcome-is is_known =
      ap (wanted (known_bytes first name)) (is is_known)
      ∙ ap (λ (bytes : List ℕ). wanted bytes (as_run run)) (sym (rest-told begun is_known).1)

  -- what the rest of the record gives is what the whole record does
  pub meets-told : (rose rose2 : Type 0) (out : SinkRun) (answer : Answer) → (rose → rose2)
      → Meets (wanted (begun.read ++ rest begun) (as_run run)) (mid.left (slot_of run.frames) ≡ Some (rest begun)) rose out answer
      → Meets (wanted (known_bytes first name) (run_of (known_bytes first name))) (KnowsBytes first (name ∷ [])) rose2 out answer
  meets-told rose rose2 out answer later met =
      meets-as (wanted (begun.read ++ rest begun) (as_run run)) (wanted (known_bytes first name) (run_of (known_bytes first name)))
      (mid.left (slot_of run.frames) ≡ Some (rest begun)) (KnowsBytes first (name ∷ [])) rose rose2 out answer
      (λ t. (rest-told begun (is_known-name first name t)).0) (λ t. outcome-is (is_known-name first name t)) later met

-- why there is no run, where the bytes of the name are known
pub if-refused : (first : ShelfState) (name : List ℕ) (end : Stopped BadRun)
    → IfRefused end (λ why. IsSome (first.holds name) → run_of (known_bytes first name) ≡ Err why)
    → IfRefused end (λ why. KnowsBytes first (name ∷ []) → run_of (known_bytes first name) ≡ Err why)
if-refused first name (Refused why) bad = λ t. bad (is_known-name first name t)
if-refused first name (Failed failure) bad = bad
