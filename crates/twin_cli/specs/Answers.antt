-- What an answer of `det_twin` reports: its exit status, one of those of `det`, and its line for
-- `err`.
use Rattle.std.specs.Prelude.{ℕ, List, [], Bool, true, false, codes}
use Rattle.det_io.specs.declared.failure.Failure.{Failure}
use Rattle.det_io.specs.declared.failure.Failure.TheVariants as failures
use Rattle.det_io.specs.declared.failure.Stopped.{Stopped}
use Rattle.det_io.specs.declared.failure.Stopped.TheVariants.{Refused, Failed}
use Rattle.det_io.specs.declared.bounded_read.TooLong as texts
use Rattle.stimulus.specs.declared.stimulus_item.StimulusFault.{StimulusFault}
use Rattle.cli_answers.specs.Answers.{err_line}
use Rattle.cli_answers.specs.declared.answer.BadManifest as refusals
use Rattle.cli_answers.specs.declared.answer.Answer.TheVariants as answers
use Rattle.cli_answers.specs.declared.status.Status.{Status}
use Rattle.cli_answers.specs.declared.status.Status.TheVariants as statuses
use Rattle.twin_cli.specs.declared.twin_answer.TwinAnswer.{TwinAnswer}
use Rattle.twin_cli.specs.declared.twin_answer.TwinAnswer.TheVariants.{Done, Differs, BadWords}
use Rattle.twin_cli.specs.declared.twin_answer.TwinAnswer.TheVariants.{BadManifest, BadStimulus}
use Rattle.twin_cli.specs.declared.twin_answer.TwinAnswer.TheVariants.{LongStimulus, ReadFault}
use Rattle.twin_cli.specs.declared.twin_answer.TwinAnswer.TheVariants.{WriteFault, OutOfMemory}

-- the answer of a failure
abbrev pub failed : Failure → TwinAnswer
failed failures.Read = ReadFault
failed failures.Write = WriteFault
failed failures.OutOfMemory = OutOfMemory

-- the answers if there is no manifest, no text, or no stimulus
abbrev pub without_manifest : Stopped refusals.BadManifest → TwinAnswer
without_manifest (Refused why) = BadManifest why
without_manifest (Failed failure) = failed failure

abbrev pub without_text : Stopped texts.TooLong → TwinAnswer
without_text (Refused long) = LongStimulus
without_text (Failed failure) = failed failure

abbrev pub without_stimulus : Stopped StimulusFault → TwinAnswer
without_stimulus (Refused fault) = BadStimulus fault.line
without_stimulus (Failed failure) = failed failure

-- an answer that comes with a text on `out`
abbrev pub has_text : TwinAnswer → Bool
has_text Done = true
has_text Differs = true
has_text answer = false

abbrev pub status_of : TwinAnswer → Status
status_of Done = statuses.Done
status_of Differs = statuses.Differs
status_of BadWords = statuses.BadWords
status_of (BadManifest why) = statuses.BadManifest
status_of (BadStimulus line) = statuses.BadStimulus
status_of LongStimulus = statuses.BadStimulus
status_of ReadFault = statuses.ReadFault
status_of WriteFault = statuses.WriteFault
status_of OutOfMemory = statuses.OutOfMemory

-- the line for `err`, which is that of `det` if `det` has this answer
abbrev pub line_of : TwinAnswer → List ℕ
line_of Done = []
line_of Differs = []
line_of BadWords = err_line answers.BadWords
line_of (BadManifest why) = err_line (answers.BadManifest why)
line_of (BadStimulus line) = err_line (answers.BadStimulus line)
line_of LongStimulus = codes "bad stimulus: too long\n"
line_of ReadFault = err_line answers.ReadFault
line_of WriteFault = err_line answers.WriteFault
line_of OutOfMemory = err_line answers.OutOfMemory
