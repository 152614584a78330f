-- The promise of the program `det_lane`.
use Rattle.std.specs.Prelude.{◌≡◌, ◌≤◌, ℕ, List, length, Option, None}
use Rattle.det_io.specs.Traffic.{SinkRun}
use Rattle.lane.specs.child_processes.Spawners.{SpawnerState}
use Rattle.cli_answers.specs.Outcome.{MeetsBy, EndsBy}
use Rattle.lane.specs.declared.lane_answer.LaneAnswer.{LaneAnswer}
use Rattle.lane.specs.declared.lane_answer.LaneAnswer.TheVariants.{BadWords}
use Rattle.lane.specs.declared.lane_status.LaneStatus.{LaneStatus}
use Rattle.lane.specs.Answers.{failed, status_of, line_of}
use Rattle.lane.specs.Children.{AsksPrefix, AllFinished}
use Rattle.lane.specs.Outcome.{outcome_of, children_of, KnowsChildren, HasSpawnFault}
use Rattle.lane.specs.Words.{CommandValue, command_of}

-- A run of a command over a spawner without children. `out` is what the run did to its sink.
pub record Runs (command : Option CommandValue) (first last : SpawnerState)
    (out : SinkRun) (answer : LaneAnswer) : Type 0 where
  -- It meets the outcome for what its children write and how they end, if that is known. It ends as
  -- a spawn fault only if a start or a read failed, or an end whose exit status counts.
  pub meets : MeetsBy failed (outcome_of first command) (KnowsChildren first (children_of command))
      (HasSpawnFault first last (children_of command)) out answer
  -- it ends as bad words exactly if the arguments are no command
  pub bad_words : (answer ≡ BadWords → command ≡ None) × (command ≡ None → answer ≡ BadWords)
  -- no other child is started, and none before its turn
  pub asked : AsksPrefix first last (children_of command)
  -- no more children are started than the command has, and none for a text or bad words
  pub children : last.children ≤ length (children_of command)
  -- no child is left running, whatever the answer
  pub finished : AllFinished last

-- The program: a run of the arguments' command, its status, and one line for the user.
abbrev pub IsPromised : (words : List (List ℕ)) → (first last : SpawnerState)
    → (out err : SinkRun) → LaneStatus → Type 0
IsPromised words first last out =
    EndsBy status_of line_of (Runs (command_of words) first last out)
