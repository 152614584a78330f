-- What the table allows a command.
use Rattle.std.specs.Prelude.{◌≡◌, ℕ, ◌≤◌, Bool, true, false, All, length, Option, Some, None}
use Rattle.cli_words.specs.declared.table.OptionWord.{OptionWord}
use Rattle.cli_words.specs.declared.table.OptionWord.TheVariants.{Workers, Seed, Cycle}
use Rattle.cli_words.specs.declared.table.OptionWord.TheVariants.{Reports, Dissent, Strict, Json}
use Rattle.cli_words.specs.declared.options.Options.{Options}
use Rattle.cli_words.specs.Names.{is_name_of}
use Rattle.cli_words.specs.Table.{row, option_row, is_among}
use Rattle.cli_words.specs.Command.{CommandValue, has_conflict}

abbrev pub value_if : Bool → Option ℕ
value_if true = Some 0
value_if false = None

-- the value of an option that is given; one that takes no value has 0
abbrev pub value_of : OptionWord → Options → Option ℕ
value_of Workers options = options.workers
value_of Seed options = options.seed
value_of Cycle options = options.cycle
value_of Reports options = value_if options.reports
value_of Dissent options = value_if options.dissent
value_of Strict options = value_if options.strict
value_of Json options = value_if options.json

abbrev pub IsWithin : Option (ℕ × ℕ) → ℕ → Type 0
IsWithin (Some (least, most)) n = (least ≤ n) × (n ≤ most)
IsWithin None n = n ≡ 0

-- A command keeps to its row: its names are of the row's kind, and there are enough and not too
-- many. Its options are those of the row, with values in range, and none excludes another.
pub record IsInRange (c : CommandValue) : Type 0 where
  pub names : All (λ name. is_name_of (row c.word).names name ≡ true) c.names
  pub least : (row c.word).least ≤ length c.names
  pub most : length c.names ≤ (row c.word).most
  pub options : (o : OptionWord) (n : ℕ) → value_of o c.options ≡ Some n
      → (is_among (row c.word).options o ≡ true) × IsWithin (option_row o).range n
  pub apart : has_conflict c.options ≡ false
