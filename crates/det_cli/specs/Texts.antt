-- The texts that `--help` and `--version` print.
use Rattle.std.specs.Prelude.{ℕ, List, [], ◌∷◌, Option, Some, None, option_and_then}
use Rattle.cli_words.specs.declared.table.CommandWord.{CommandWord}
use Rattle.cli_words.specs.declared.table.CommandWord.TheVariants.{Demo, Record, Show, Needs, Sim}
use Rattle.cli_words.specs.declared.table.CommandWord.TheVariants.{Replay, Check, Upgrade}
use Rattle.cli_words.specs.declared.table.CommandWord.TheVariants.{Compare, Vote, Salvage, Chain}
use Rattle.cli_words.specs.Table.{command_word}
use Rattle.det_cli.specs.declared.det_usage.TheConstants.{USAGE}
use Rattle.det_cli.specs.declared.pages.TheConstants.{DEMO, RECORD, SHOW, NEEDS, SIM}
use Rattle.det_cli.specs.declared.pages.TheConstants.{REPLAY, CHECK, UPGRADE, COMPARE, VOTE}
use Rattle.det_cli.specs.declared.pages.TheConstants.{SALVAGE, CHAIN}

-- the page of a command; `--help` and `--version` have none
abbrev pub command_page : CommandWord → Option (List ℕ)
command_page Demo = Some DEMO.now
command_page Record = Some RECORD.now
command_page Show = Some SHOW.now
command_page Needs = Some NEEDS.now
command_page Sim = Some SIM.now
command_page Replay = Some REPLAY.now
command_page Check = Some CHECK.now
command_page Upgrade = Some UPGRADE.now
command_page Compare = Some COMPARE.now
command_page Vote = Some VOTE.now
command_page Salvage = Some SALVAGE.now
command_page Chain = Some CHAIN.now
command_page other = None

-- the text that `--help` prints: the usage, or the page of the named command
abbrev pub help_text : (names : List (List ℕ)) → Option (List ℕ)
help_text [] = Some USAGE.now
help_text (name ∷ rest) = option_and_then command_page (command_word name)
