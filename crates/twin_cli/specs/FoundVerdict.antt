-- What twins find by running their copies.
use Rattle.std.specs.Prelude.{◌≡◌, ◌≢◌, ◌⊎◌, Result, Err, Some}
use Rattle.det_io.specs.Count.{Rose}
use Rattle.det_io.specs.Shelf.{ShelfState, AsksPrefix}
use Rattle.copies.specs.declared.verdict.Verdict.{Verdict}
use Rattle.cli_answers.specs.Found.{found_by, FindsBy}
use Rattle.cli_answers.specs.Outcome.{OutcomeIn, KnowsBytes, known_bytes}
use Rattle.cli_answers.specs.Slots.{KeepsSlots}
use Rattle.twin_cli.specs.declared.twin_answer.TwinAnswer.{TwinAnswer}
use Rattle.twin_cli.specs.declared.twin_answer.TwinAnswer.TheVariants.{BadWords, OutOfMemory}
use Rattle.twin_cli.specs.Answers.{failed}
use Rattle.twin_cli.specs.Outcome.{verdict_outcome, twins_outcome, names_in, opened_names}
use Rattle.twin_cli.specs.Words.{TwinsValue, run}

-- the outcome of what was found
abbrev pub found_outcome : Result Verdict TwinAnswer → OutcomeIn TwinAnswer
found_outcome = found_by verdict_outcome

-- this outcome is found, unless memory ran out
abbrev pub Finds : Result Verdict TwinAnswer → OutcomeIn TwinAnswer → Type 0
Finds result wanted = (result ≡ Err OutOfMemory) ⊎ (found_outcome result ≡ wanted)

pub record Found (twins : TwinsValue) (first last : ShelfState) (result : Result Verdict TwinAnswer)
    : Type 0 where
  pub found : FindsBy failed verdict_outcome (twins_outcome twins (known_bytes first))
      (KnowsBytes first (opened_names (Some (run twins)) (known_bytes first)))
      (Rose first.faults last.faults) result
  pub words : result ≢ Err BadWords
  pub asked : AsksPrefix first last (names_in (Some (run twins)))
  pub needed : KnowsBytes first (opened_names (Some (run twins)) (known_bytes first))
      → AsksPrefix first last (opened_names (Some (run twins)) (known_bytes first))
  pub earlier : KeepsSlots first last
