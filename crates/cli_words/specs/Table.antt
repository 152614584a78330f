-- The table of commands and the table of options.
use Rattle.std.specs.Prelude.{ℕ, ◌-◌, ◌^◌, List, Bool, true, Option, Some, None, option_and_then}
use Rattle.std.specs.Prelude.{find, codes, if◌then◌else◌}
use Rattle.std.specs.Str.{bytes_eq}
use Rattle.cli_words.specs.declared.table.CommandWord.{CommandWord}
use Rattle.cli_words.specs.declared.table.CommandWord.TheVariants as command
use Rattle.cli_words.specs.declared.table.NameKind.{NameKind}
use Rattle.cli_words.specs.declared.table.NameKind.TheVariants.{File, Number, Command}
use Rattle.cli_words.specs.declared.table.OptionWord.{OptionWord}
use Rattle.cli_words.specs.declared.table.OptionWord.TheVariants.{Workers, Seed, Cycle}
use Rattle.cli_words.specs.declared.table.OptionWord.TheVariants.{Reports, Dissent, Strict, Json}
use Rattle.cli_words.specs.declared.table.OptionSet.{OptionSet}
use Rattle.cli_words.specs.declared.table.CommandRow as code
use Rattle.cli_words.specs.declared.table.OptionRow as option
use Rattle.cli_words.specs.declared.table.TheConstants.{NO_OPTIONS, COMMANDS, OPTIONS}

-- a row of the table: the command's word, the kind of its names, how few and how many it takes, and
-- its options
pub record CommandRow : Type 0 where
  pub word : List ℕ
  pub names : NameKind
  pub least : ℕ
  pub most : ℕ
  pub options : OptionSet

abbrev pub row_value : code.CommandRow → CommandRow
row_value r = record {
  word = r.word.now;
  names = r.names;
  least = r.least;
  most = r.most;
  options = r.options;
}

abbrev pub row_of : List ℕ → NameKind → ℕ → ℕ → OptionSet → CommandRow
row_of word names least most options = record {
  word = word;
  names = names;
  least = least;
  most = most;
  options = options;
}

abbrev pub row : CommandWord → CommandRow
row command.Demo = row_of (codes "demo") File 1 1 NO_OPTIONS
row command.Record = row_of (codes "record") File 2 2
    (record NO_OPTIONS { workers = true; seed = true; strict = true })
row command.Replay = row_of (codes "replay") File 1 1 (record NO_OPTIONS { workers = true })
row command.Check = row_of (codes "check") File 1 1 (record NO_OPTIONS { workers = true })
row command.Compare = row_of (codes "compare") File 2 8 NO_OPTIONS
row command.Show = row_of (codes "show") File 1 1
    (record NO_OPTIONS { cycle = true; reports = true; json = true })
row command.Needs = row_of (codes "needs") File 1 1 (record NO_OPTIONS { strict = true })
row command.Sim = row_of (codes "sim") Number 1 1 (record NO_OPTIONS { workers = true })
row command.Salvage = row_of (codes "salvage") File 1 1 (record NO_OPTIONS { reports = true })
row command.Upgrade = row_of (codes "upgrade") File 1 1 (record NO_OPTIONS { workers = true })
row command.Vote = row_of (codes "vote") File 3 7 (record NO_OPTIONS { dissent = true })
row command.Chain = row_of (codes "chain") File 3 3
    (record NO_OPTIONS { workers = true; seed = true; strict = true })
row command.Help = row_of (codes "--help") Command 0 1 NO_OPTIONS
row command.Version = row_of (codes "--version") File 0 0 NO_OPTIONS

-- the command that an argument names
abbrev pub command_word : List ℕ → Option CommandWord
command_word word = find (λ c. bytes_eq (row c).word word) COMMANDS

-- a row of the table of options: its argument and, if it takes a value, its least and greatest
-- value
pub record OptionRow : Type 0 where
  pub word : List ℕ
  pub range : Option (ℕ × ℕ)

abbrev pub option_row_value : option.OptionRow → OptionRow
option_row_value r = record { word = r.word.now; range = r.range }

abbrev pub option_row : OptionWord → OptionRow
option_row Workers = record { word = codes "--workers"; range = Some (1, 64) }
option_row Seed = record { word = codes "--seed"; range = Some (0, 2 ^ 64 - 1) }
option_row Cycle = record { word = codes "--cycle"; range = Some (1, 1000000) }
option_row Reports = record { word = codes "--reports"; range = None }
option_row Dissent = record { word = codes "--dissent"; range = None }
option_row Strict = record { word = codes "--strict"; range = None }
option_row Json = record { word = codes "--json"; range = None }

abbrev pub is_among : OptionSet → OptionWord → Bool
is_among set Workers = set.workers
is_among set Seed = set.seed
is_among set Cycle = set.cycle
is_among set Reports = set.reports
is_among set Dissent = set.dissent
is_among set Strict = set.strict
is_among set Json = set.json

-- the option that an argument names
abbrev pub option_word : List ℕ → Option OptionWord
option_word word = find (λ o. bytes_eq (option_row o).word word) OPTIONS

-- the option of this set that an argument names
abbrev pub option_in : OptionSet → List ℕ → Option OptionWord
option_in set word =
    option_and_then (λ o. if is_among set o then Some o else None) (option_word word)
