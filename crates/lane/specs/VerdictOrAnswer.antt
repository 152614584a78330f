-- What the exit statuses of children make of the verdict on their outputs.
use Rattle.std.specs.Prelude.{ℕ, List, [], ◌∷◌, nat_eq, Option, Some, None, unwrap_or, option_map}
use Rattle.std.specs.Prelude.{slice_index_or, if◌then◌else◌, Result, Ok, Err}
use Rattle.det_io.specs.declared.failure.Stopped.{Stopped}
use Rattle.det_io.specs.declared.failure.Stopped.TheVariants.{Refused, Failed}
use Rattle.record_grammar.specs.declared.record_fault.Reason.{Reason}
use Rattle.record_grammar.specs.declared.record_fault.Reason.TheVariants.{Truncated}
use Rattle.copies.specs.declared.verdict.BadCopy.{BadCopy}
use Rattle.copies.specs.declared.verdict.Verdict.{Verdict}
use Rattle.copies.specs.declared.verdict.Verdict.TheVariants.{Agree, Differ}
use Rattle.lane.specs.declared.lane_answer.LaneAnswer.{LaneAnswer}
use Rattle.lane.specs.declared.lane_answer.LaneAnswer.TheVariants.{BadRecord, ChildFailed}
use Rattle.lane.specs.declared.lane_answer.LaneAnswer.TheVariants.{SpawnFault}
use Rattle.lane.specs.Answers.{failed}
use Rattle.lane.specs.Outcome.{first_failed}

-- what the exit status of a child means: no failure for 0, and a spawn fault if it isn't known
abbrev pub failure_of : (child : ℕ) → Option ℕ → Option LaneAnswer
failure_of child None = Some SpawnFault
failure_of child (Some status) =
    if nat_eq status 0 then None else Some (ChildFailed child status)

-- all exit statuses, if each is known
abbrev pub known_statuses : List (Option ℕ) → Option (List ℕ)
known_statuses [] = Some []
known_statuses (None ∷ more) = None
known_statuses (Some status ∷ more) =
    option_map (λ statuses. status ∷ statuses) (known_statuses more)

-- what they mean: one that isn't known counts before one that isn't 0
abbrev pub failure_among : Option (List ℕ) → Option LaneAnswer
failure_among None = Some SpawnFault
failure_among (Some statuses) = first_failed 0 statuses

-- copies that agree are done if no child failed
abbrev pub unless : Option LaneAnswer → Verdict → Result Verdict LaneAnswer
unless (Some failure) verdict = Err failure
unless None verdict = Ok verdict

-- a truncated record is its child's failure, if the child failed
abbrev pub refused_by : Reason → BadCopy → Option ℕ → LaneAnswer
refused_by Truncated bad status =
    unwrap_or (failure_of bad.copy status) (BadRecord bad.copy bad.fault)
refused_by reason bad status = BadRecord bad.copy bad.fault

-- the verdict that is printed, or the answer if none is
abbrev pub verdict_or_answer : Result Verdict (Stopped BadCopy) → List (Option ℕ)
    → Result Verdict LaneAnswer
verdict_or_answer (Ok (Agree cycles)) statuses =
    unless (failure_among (known_statuses statuses)) (Agree cycles)
verdict_or_answer (Ok (Differ copy at)) statuses = Ok (Differ copy at)
verdict_or_answer (Err (Refused bad)) statuses =
    Err (refused_by bad.fault.reason bad (slice_index_or statuses bad.copy None))
verdict_or_answer (Err (Failed failure)) statuses = Err (failed failure)
