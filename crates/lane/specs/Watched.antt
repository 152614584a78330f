-- What a lane finds by running its children.
use Rattle.std.specs.Prelude.{◌≢◌, ◌≤◌, Result, Err}
use Rattle.lane.specs.child_processes.Spawners.{SpawnerState}
use Rattle.copies.specs.declared.verdict.Verdict.{Verdict}
use Rattle.cli_answers.specs.Found.{found_by, FindsBy}
use Rattle.cli_answers.specs.Outcome.{OutcomeIn}
use Rattle.lane.specs.declared.lane_answer.LaneAnswer.{LaneAnswer}
use Rattle.lane.specs.declared.lane_answer.LaneAnswer.TheVariants.{BadWords}
use Rattle.lane.specs.Answers.{failed}
use Rattle.lane.specs.Children.{AsksPrefix, AllFinished}
use Rattle.lane.specs.Outcome.{verdict_outcome, lane_outcome, KnowsChildren, HasSpawnFault}
use Rattle.lane.specs.Words.{LaneValue, words_of_all}

-- the outcome of what was found
abbrev pub found_outcome : Result Verdict LaneAnswer → OutcomeIn LaneAnswer
found_outcome = found_by verdict_outcome

pub record Watched (first last : SpawnerState) (lane : LaneValue)
    (result : Result Verdict LaneAnswer) : Type 0 where
  pub found : FindsBy failed verdict_outcome (lane_outcome first lane)
      (KnowsChildren first (words_of_all lane)) (HasSpawnFault first last (words_of_all lane))
      result
  pub words : result ≢ Err BadWords
  pub asked : AsksPrefix first last (words_of_all lane)
  pub children : last.children ≤ lane.copies
  pub finished : AllFinished last
