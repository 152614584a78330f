-- The outcome of a lane by the outputs and exit statuses of its children.
use Rattle.std.specs.Prelude.{◌≡◌, ◌<◌, ◌⊎◌, ℕ, ◌+◌, List, [], ◌∷◌, length, get_or, nat_eq, map}
use Rattle.std.specs.Prelude.{Option, Some, None, true}
use Rattle.std.specs.Prelude.{unwrap_or, if◌then◌else◌, IsSome, Result, Ok, Err, All}
use Rattle.det_io.specs.Count.{Rose}
use Rattle.lane.specs.child_processes.Spawners.{SpawnerState, Words}
use Rattle.record_grammar.specs.declared.record_fault.Reason.{Reason}
use Rattle.record_grammar.specs.declared.record_fault.Reason.TheVariants.{Truncated}
use Rattle.copies.specs.declared.verdict.BadCopy.{BadCopy}
use Rattle.copies.specs.declared.verdict.Verdict.{Verdict}
use Rattle.copies.specs.declared.verdict.Verdict.TheVariants.{Agree, Differ}
use Rattle.copies.specs.Verdict.{verdict}
use Rattle.copies.specs.verdict_text.Verdicts.{verdict_line}
use Rattle.cli_answers.specs.Outcome.{OutcomeIn}
use Rattle.cli_words.specs.declared.text_word.TextWord.{TextWord}
use Rattle.cli_words.specs.declared.text_word.TextWord.TheVariants.{Help, Version}
use Rattle.lane.specs.declared.lane_answer.LaneAnswer.{LaneAnswer}
use Rattle.lane.specs.declared.lane_answer.LaneAnswer.TheVariants.{Done, Differs, BadWords}
use Rattle.lane.specs.declared.lane_answer.LaneAnswer.TheVariants.{BadRecord, ChildFailed}
use Rattle.lane.specs.declared.lane_usage.TheConstants.{USAGE, VERSION}
use Rattle.lane.specs.Words.{LaneValue, CommandValue, printing, run, words_of_all}

-- an answer with a text
abbrev pub outcome_with : LaneAnswer → List ℕ → OutcomeIn LaneAnswer
outcome_with answer bytes = record { answer = answer; bytes = bytes }

abbrev pub answer_to : Verdict → LaneAnswer
answer_to (Agree cycles) = Done
answer_to (Differ copy at) = Differs

-- the outcome of a verdict
abbrev pub verdict_outcome : Verdict → OutcomeIn LaneAnswer
verdict_outcome verdict = outcome_with (answer_to verdict) (verdict_line verdict)

-- the first child, counted on from `child`, that ended with an exit status other than 0
abbrev pub first_failed : ℕ → List ℕ → Option LaneAnswer
first_failed child [] = None
first_failed child (status ∷ statuses) =
    if nat_eq status 0 then first_failed (child + 1) statuses else Some (ChildFailed child status)

-- children that agree are done if none failed
abbrev pub agreed : Option LaneAnswer → ℕ → OutcomeIn LaneAnswer
agreed (Some failed) cycles = outcome_with failed []
agreed None cycles = verdict_outcome (Agree cycles)

-- a truncated record is its child's failure, if the child failed
abbrev pub broken_off : BadCopy → (status : ℕ) → LaneAnswer
broken_off bad status =
    if nat_eq status 0 then BadRecord bad.copy bad.fault else ChildFailed bad.copy status

abbrev pub bad_by : Reason → BadCopy → (statuses : List ℕ) → LaneAnswer
bad_by Truncated bad statuses = broken_off bad (get_or statuses bad.copy 0)
bad_by reason bad statuses = BadRecord bad.copy bad.fault

-- the verdict on the outputs, by the exit statuses of the children
abbrev pub lane_by : Result Verdict BadCopy → (statuses : List ℕ) → OutcomeIn LaneAnswer
lane_by (Ok (Agree cycles)) statuses = agreed (first_failed 0 statuses) cycles
lane_by (Ok (Differ copy at)) statuses = verdict_outcome (Differ copy at)
lane_by (Err bad) statuses = outcome_with (bad_by bad.fault.reason bad statuses) []

-- what the children write, and how they end, if the spawner knows it
abbrev pub outputs : SpawnerState → List Words → List (List ℕ)
outputs spawner words = map (λ w. unwrap_or (spawner.gives w) []) words

abbrev pub statuses_of : SpawnerState → List Words → List ℕ
statuses_of spawner words = map (λ w. unwrap_or (spawner.ends w) 0) words

abbrev pub lane_outcome : SpawnerState → LaneValue → OutcomeIn LaneAnswer
lane_outcome spawner lane = lane_by (verdict (outputs spawner (words_of_all lane)))
    (statuses_of spawner (words_of_all lane))

-- the text that an argument asks for
abbrev pub text_of : TextWord → List ℕ
text_of Help = USAGE.now
text_of Version = VERSION.now

-- the outcome of a command
abbrev pub outcome_of : SpawnerState → Option CommandValue → OutcomeIn LaneAnswer
outcome_of spawner None = outcome_with BadWords []
outcome_of spawner (Some (printing word)) = outcome_with Done (text_of word)
outcome_of spawner (Some (run lane)) = lane_outcome spawner lane

-- the lists of arguments with which a command starts children
abbrev pub children_of : Option CommandValue → List Words
children_of (Some (run lane)) = words_of_all lane
children_of command = []

-- the spawner knows what children with these arguments write, and how they end
abbrev pub KnowsChildren : SpawnerState → List Words → Type 0
KnowsChildren spawner words = All (λ w. IsSome (spawner.gives w) × IsSome (spawner.ends w)) words

-- By the verdict, the exit status of a child counts: every child's if the copies agree, that of the
-- copy if its record is truncated, and none else.
abbrev pub StatusCounts : Result Verdict BadCopy → ℕ → Type 0
StatusCounts (Ok (Agree cycles)) child = Unit {0}
StatusCounts (Ok (Differ copy at)) child = ⊥
StatusCounts (Err bad) child = (bad.fault.reason ≡ Truncated) × (bad.copy ≡ child)

-- the `finish` of a child failed, and its exit status counts, if the outputs are known
pub record LosesStatus (first last : SpawnerState) (words : List Words) : Type 0 where
  pub child : ℕ
  pub is_copy : child < length words
  pub is_lost : last.lost child ≡ true
  pub counts : KnowsChildren first words → StatusCounts (verdict (outputs first words)) child

-- what a spawn fault needs: a start or a read failed, or an end whose exit status counts
abbrev pub HasSpawnFault : (first last : SpawnerState) → List Words → Type 0
HasSpawnFault first last words = Rose first.faults last.faults ⊎ LosesStatus first last words
