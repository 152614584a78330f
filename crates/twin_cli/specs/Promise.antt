-- The promise of the program `det_twin`.
use Rattle.std.specs.Prelude.{◌≡◌, ℕ, List, Option, None}
use Rattle.det_io.specs.Count.{Rose}
use Rattle.det_io.specs.Shelf.{ShelfState, AsksPrefix}
use Rattle.det_io.specs.Traffic.{SinkRun}
use Rattle.cli_answers.specs.Outcome.{MeetsBy, EndsBy, KnowsBytes, known_bytes}
use Rattle.cli_answers.specs.Slots.{KeepsSlots}
use Rattle.cli_answers.specs.declared.status.Status.{Status}
use Rattle.twin_cli.specs.declared.twin_answer.TwinAnswer.{TwinAnswer}
use Rattle.twin_cli.specs.declared.twin_answer.TwinAnswer.TheVariants.{BadWords}
use Rattle.twin_cli.specs.Answers.{failed, status_of, line_of}
use Rattle.twin_cli.specs.Outcome.{outcome_of, names_in, opened_names}
use Rattle.twin_cli.specs.Words.{CommandValue, command_of}

-- A run of a command. `out` is what the run did to its sink.
pub record Runs (command : Option CommandValue) (first last : ShelfState)
    (out : SinkRun) (answer : TwinAnswer) : Type 0 where
  -- it meets the outcome for the bytes under the names that it opens, if they are known
  pub meets : MeetsBy failed (outcome_of command (known_bytes first))
      (KnowsBytes first (opened_names command (known_bytes first)))
      (Rose first.faults last.faults) out answer
  -- it ends as bad words exactly if the arguments are no command
  pub bad_words : (answer ≡ BadWords → command ≡ None) × (command ≡ None → answer ≡ BadWords)
  -- It opens no other name, and none before its turn. If the names are known, it opens only those
  -- that it needs.
  pub asked : AsksPrefix first last (names_in command)
  pub needed : KnowsBytes first (opened_names command (known_bytes first))
      → AsksPrefix first last (opened_names command (known_bytes first))
  -- slots that were given before the call keep what they have left
  pub earlier : KeepsSlots first last

-- The program: a run of the arguments' command, its status, and one line for the user.
abbrev pub IsPromised : (words : List (List ℕ)) → (first last : ShelfState)
    → (out err : SinkRun) → Status → Type 0
IsPromised words first last out =
    EndsBy status_of line_of (Runs (command_of words) first last out)
