-- The outcome of a command, an answer and the bytes for `out`, and when a run meets it.
use Rattle.std.specs.Prelude.{◌≡◌, ℕ, ◌⊎◌, List, [], IsSome}
use Rattle.std.specs.List.{All}
use Rattle.std.specs.Option.{unwrap_or}
use Rattle.det_io.specs.Count.{Rose}
use Rattle.det_io.specs.Sink.{Grew, GrewByPrefix}
use Rattle.det_io.specs.Shelf.{ShelfState}
use Rattle.det_io.specs.Traffic.{SinkRun}
use Rattle.det_io.specs.declared.failure.Failure.{Failure}
use Rattle.det_io.specs.declared.failure.Failure.TheVariants.{Read, Write, OutOfMemory}
use Rattle.cli_answers.specs.declared.answer.Answer.{Answer}
use Rattle.cli_answers.specs.declared.answer.Answer.TheVariants.{Done}
use Rattle.cli_answers.specs.Answers.{failed}

-- an outcome of a program with answers of this type
pub record OutcomeIn (A : Type 0) : Type 0 where
  pub answer : A
  pub bytes : List ℕ

abbrev pub Outcome : Type 0
Outcome = OutcomeIn Answer

-- the outcome of a command that prints a text
abbrev pub text_outcome : List ℕ → Outcome
text_outcome text = record { answer = Done; bytes = text }

-- a refusal with this answer, before anything was written
abbrev pub refusal : Answer → Outcome
refusal answer = record { answer = answer; bytes = [] }

-- the bytes under these names are known
abbrev pub KnowsBytes : ShelfState → List (List ℕ) → Type 0
KnowsBytes shelf names = All (λ name. IsSome (shelf.holds name)) names

-- the bytes under a name, if they are known
abbrev pub known_bytes : ShelfState → List ℕ → List ℕ
known_bytes shelf name = unwrap_or (shelf.holds name) []

-- the count of a sink's faults rose
abbrev pub HasRisen : SinkRun → Type 0
HasRisen out = Rose out.faults_before out.faults_after

-- A run meets the outcome `wanted`. `failed` gives the answers of failures. `is_known` says that
-- all bytes that the outcome depends on are known, `read_failed` that the count of faults of what
-- is read rose. `out` is what the run did to its sink.
pub record MeetsBy {A : Type 0} (failed : Failure → A) (wanted : OutcomeIn A)
    (is_known read_failed : Type 0) (out : SinkRun) (answer : A) : Type 0 where
  -- whatever the answer, `out` took a prefix of the bytes
  pub part : is_known → GrewByPrefix out.before out.after wanted.bytes
  -- the answer is that of a failure, or it is the outcome's and `out` took all bytes
  pub whole : is_known → (answer ≡ failed Read) ⊎ ((answer ≡ failed Write)
      ⊎ ((answer ≡ failed OutOfMemory)
      ⊎ ((answer ≡ wanted.answer) × Grew out.before out.after wanted.bytes)))
  pub read_fault : answer ≡ failed Read → read_failed
  -- the count of faults of `out` rose
  pub write_fault : answer ≡ failed Write → HasRisen out

-- the same for a command of `det`
abbrev pub Meets : Outcome → (is_known read_failed : Type 0) → SinkRun → Answer → Type 0
Meets = MeetsBy failed

-- `out` took a prefix of the line that a program ends with, and all of it unless its count of
-- faults rose
pub record WritesLine (line : List ℕ) (out : SinkRun) : Type 0 where
  pub part : GrewByPrefix out.before out.after line
  pub whole : ¬ HasRisen out → Grew out.before out.after line

-- The end of a program: the answer of its run, of which `Ran` holds, the exit status of the answer,
-- and one line for the user.
pub record EndsBy {A S : Type 0} (status_of : A → S) (line_of : A → List ℕ) (Ran : A → Type 0)
    (err : SinkRun) (status : S) : Type 0 where
  pub answer : A
  pub is : status ≡ status_of answer
  pub runs : Ran answer
  pub line : WritesLine (line_of answer) err
