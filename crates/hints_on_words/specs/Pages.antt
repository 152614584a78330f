-- The commands of `det` that have a page of their own.
use Rattle.std.specs.Prelude.{ℕ, List, [], ◌∷◌, Option, None, Some, option_and_then}
use Rattle.cli_words.specs.declared.table.CommandWord.{CommandWord}
use Rattle.cli_words.specs.declared.table.CommandWord.TheVariants.{Help, Version}
use Rattle.cli_words.specs.Table.{row, command_word}

abbrev pub page_of : CommandWord → Option (List ℕ)
page_of Help = None
page_of Version = None
page_of command = Some (row command).word

-- the first argument, if it is a command with a page
abbrev pub page_word : List (List ℕ) → Option (List ℕ)
page_word [] = None
page_word (first ∷ rest) = option_and_then page_of (command_word first)
