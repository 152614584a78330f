-- The command that the first argument names, with what the rest gives.
use Rattle.std.specs.Prelude.{ℕ, List, ◌∷◌, Option}
use Rattle.cli_words.specs.Command.{CommandValue}
use Rattle.cli_words.specs.Reading.{read_long_form}

abbrev pub read : List ℕ → List (List ℕ) → Option CommandValue
read first rest = read_long_form (first ∷ rest)
