-- A command with its names and options.
use Rattle.std.specs.Prelude.{ℕ, List, [], get_or, Bool, true, ◌&&◌, ◌||◌, Some, is_some}
use Rattle.std.specs.Prelude.{unwrap_or, if◌then◌else◌}
use Rattle.std.specs.Option.{option_map_or}
use Rattle.cli_words.specs.declared.table.CommandWord.{CommandWord}
use Rattle.cli_words.specs.declared.table.NameKind.{NameKind}
use Rattle.cli_words.specs.declared.table.NameKind.TheVariants.{File}
use Rattle.cli_words.specs.declared.table.OptionWord.{OptionWord}
use Rattle.cli_words.specs.declared.table.OptionWord.TheVariants.{Workers, Seed, Cycle}
use Rattle.cli_words.specs.declared.table.OptionWord.TheVariants.{Reports, Dissent, Strict, Json}
use Rattle.cli_words.specs.declared.options.Options.{Options}
use Rattle.record_text.specs.declared.show_part.ShowPart.{ShowPart}
use Rattle.record_text.specs.declared.show_part.ShowPart.TheVariants as parts
use Rattle.cli_words.specs.declared.command.Command as code
use Rattle.cli_words.specs.Number.{number_of}
use Rattle.cli_words.specs.Names.{texts_of}
use Rattle.cli_words.specs.Table.{row}

pub record CommandValue : Type 0 where
  pub word : CommandWord
  pub names : List (List ℕ)
  pub options : Options

abbrev pub command_value : code.Command → CommandValue
command_value c = record { word = c.word; names = texts_of c.names; options = c.options }

-- the name at a place, or the empty text
abbrev pub name_at : ℕ → CommandValue → List ℕ
name_at place c = get_or c.names place []

-- the number that the first name spells, or 0
abbrev pub number_in : CommandValue → ℕ
number_in c = unwrap_or (number_of (name_at 0 c)) 0

abbrev pub files_by : NameKind → List (List ℕ) → List (List ℕ)
files_by File names = names
files_by other names = []

-- the files of a command, in the order in which it opens them
abbrev pub files_of : CommandValue → List (List ℕ)
files_of c = files_by (row c.word).names c.names

-- whether an option is given
abbrev pub is_given : OptionWord → Options → Bool
is_given Workers options = is_some options.workers
is_given Seed options = is_some options.seed
is_given Cycle options = is_some options.cycle
is_given Reports options = options.reports
is_given Dissent options = options.dissent
is_given Strict options = options.strict
is_given Json options = options.json

-- sets an option, to its value if it takes one
abbrev pub with_given : OptionWord → ℕ → Options → Options
with_given Workers n options = record options { workers = Some n }
with_given Seed n options = record options { seed = Some n }
with_given Cycle n options = record options { cycle = Some n }
with_given Reports n options = record options { reports = true }
with_given Dissent n options = record options { dissent = true }
with_given Strict n options = record options { strict = true }
with_given Json n options = record options { json = true }

-- `--reports` is given with `--cycle` or `--json`, which it excludes
abbrev pub has_conflict : Options → Bool
has_conflict options = options.reports && (is_some options.cycle || options.json)

-- the part of a record that is printed
abbrev pub part_of : Options → ShowPart
part_of options =
    if options.reports then parts.Reports
    else option_map_or parts.Cycle options.cycle parts.All
