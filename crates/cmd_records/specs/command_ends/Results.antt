-- The answer of a command by the result of its work, and what the result says of the outcome.
use Rattle.std.specs.Prelude.{◌≡◌, Result, Ok, Err}
use Rattle.det_io.specs.declared.failure.Failure.TheVariants as failures
use Rattle.det_io.specs.declared.failure.Stopped.{Stopped}
use Rattle.det_io.specs.declared.failure.Stopped.TheVariants.{Refused, Failed}
use Rattle.det_io.specs.Sink.{Grew, GrewByPrefix}
use Rattle.det_io.specs.Traffic.{SinkRun}
use Rattle.cli_answers.specs.declared.answer.Answer.{Answer}
use Rattle.cli_answers.specs.declared.answer.Answer.TheVariants.{Done}
use Rattle.cli_answers.specs.Answers.{failed}
use Rattle.cli_answers.specs.Outcome.{Outcome}

-- the answer by a result; `refused` gives the answer of a refusal
abbrev pub answer_by : {T E : Type 0} → (E → Answer) → Result T (Stopped E) → Answer
answer_by refused (Ok value) = Done
answer_by refused (Err (Refused why)) = refused why
answer_by refused (Err (Failed failure)) = failed failure

-- what a result says of the outcome, and of how much of it the sink took
abbrev pub Gives : {T E : Type 0} → (E → Answer) → Result T (Stopped E) → Outcome → SinkRun
    → Type 0
Gives refused (Ok value) wanted out =
    (wanted.answer ≡ Done) × Grew out.before out.after wanted.bytes
Gives refused (Err (Refused why)) wanted out =
    (wanted.answer ≡ refused why) × Grew out.before out.after wanted.bytes
Gives refused (Err (Failed failure)) wanted out = GrewByPrefix out.before out.after wanted.bytes

-- a fact after each result but "out of memory"
abbrev pub UnlessNoMemory : {T E : Type 0} → Result T (Stopped E) → Type 0 → Type 0
UnlessNoMemory (Err (Failed failures.OutOfMemory)) fact = Unit {0}
UnlessNoMemory result fact = fact
