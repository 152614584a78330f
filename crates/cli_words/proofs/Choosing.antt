-- An argument after the command, which is an option or a name.
use Rattle.std.proofs.Common.{ℕ, List, Option}
use Rattle.std.specs.Option.{option_map_or}
use Rattle.cli_words.specs.declared.table.OptionWord.{OptionWord}
use Rattle.cli_words.specs.Command.{CommandValue}
use Rattle.cli_words.specs.Reading.{Reading, with_name, with_option}

-- with the option that the word is, or else with the word as a name
abbrev pub with_option_or_name : Option OptionWord → List ℕ → CommandValue → Option Reading
with_option_or_name option word c = option_map_or (λ o. with_option o c) option (with_name word c)
