-- What an answer of `det_lane` reports: its exit status, and its line for `err`.
use Rattle.std.specs.Prelude.{ℕ, List, [], ◌++◌, Bool, true, false, codes, decimal}
use Rattle.det_io.specs.declared.failure.Failure.{Failure}
use Rattle.det_io.specs.declared.failure.Failure.TheVariants as failures
use Rattle.cli_answers.specs.Answers.{ended, err_line}
use Rattle.cli_answers.specs.declared.answer.Answer.TheVariants as answers
use Rattle.lane.specs.declared.lane_answer.LaneAnswer.{LaneAnswer}
use Rattle.lane.specs.declared.lane_answer.LaneAnswer.TheVariants.{Done, Differs, BadWords}
use Rattle.lane.specs.declared.lane_answer.LaneAnswer.TheVariants.{BadRecord, WriteFault}
use Rattle.lane.specs.declared.lane_answer.LaneAnswer.TheVariants.{OutOfMemory, ChildFailed}
use Rattle.lane.specs.declared.lane_answer.LaneAnswer.TheVariants.{SpawnFault}
use Rattle.lane.specs.declared.lane_status.LaneStatus.{LaneStatus}
use Rattle.lane.specs.declared.lane_status.LaneStatus.TheVariants as statuses

-- the answer of a failure; what a lane reads are its children
abbrev pub failed : Failure → LaneAnswer
failed failures.Read = SpawnFault
failed failures.Write = WriteFault
failed failures.OutOfMemory = OutOfMemory

-- an answer that comes with a text on `out`
abbrev pub has_text : LaneAnswer → Bool
has_text Done = true
has_text Differs = true
has_text answer = false

abbrev pub status_of : LaneAnswer → LaneStatus
status_of Done = statuses.Done
status_of Differs = statuses.Differs
status_of BadWords = statuses.BadWords
status_of (BadRecord copy fault) = statuses.BadRecord
status_of WriteFault = statuses.WriteFault
status_of OutOfMemory = statuses.OutOfMemory
status_of (ChildFailed child status) = statuses.ChildFailed
status_of SpawnFault = statuses.SpawnFault

abbrev pub number_of : LaneStatus → ℕ
number_of statuses.Done = 0
number_of statuses.Differs = 1
number_of statuses.BadWords = 2
number_of statuses.BadRecord = 5
number_of statuses.WriteFault = 7
number_of statuses.OutOfMemory = 8
number_of statuses.ChildFailed = 9
number_of statuses.SpawnFault = 10

abbrev pub child_failed_text : (child status : ℕ) → List ℕ
child_failed_text child status =
    codes "child " ++ (decimal child ++ (codes " status " ++ decimal status))

-- the line for `err`, which is that of `det` if `det` has this answer
abbrev pub line_of : LaneAnswer → List ℕ
line_of Done = []
line_of Differs = []
line_of BadWords = err_line answers.BadWords
line_of (BadRecord copy fault) = err_line (answers.BadRecord copy fault)
line_of WriteFault = err_line answers.WriteFault
line_of OutOfMemory = err_line answers.OutOfMemory
line_of (ChildFailed child status) = ended (child_failed_text child status)
line_of SpawnFault = codes "spawn fault\n"
