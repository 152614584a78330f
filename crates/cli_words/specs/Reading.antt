-- Which arguments are a command.
use Rattle.std.specs.Prelude.{ℕ, List, [], ◌∷◌, ◌++◌, Bool, false, ◌&&◌, ◌||◌, not, nat_lt, nat_le}
use Rattle.std.specs.Prelude.{length, Option, Some, None, is_some, is_none, option_and_then, codes}
use Rattle.std.specs.Prelude.{if◌then◌else◌}
use Rattle.std.specs.Option.{option_map_or}
use Rattle.std.specs.Str.{bytes_eq}
use Rattle.cli_words.specs.declared.table.CommandWord.{CommandWord}
use Rattle.cli_words.specs.declared.table.OptionWord.{OptionWord}
use Rattle.cli_words.specs.declared.reading.Reading as code
use Rattle.cli_words.specs.declared.options.TheConstants.{NOTHING_GIVEN}
use Rattle.cli_words.specs.Number.{number_of}
use Rattle.cli_words.specs.Names.{is_name_of}
use Rattle.cli_words.specs.Table.{row, command_word, option_row, option_in}
use Rattle.cli_words.specs.Command.{CommandValue, command_value, is_given, with_given}
use Rattle.cli_words.specs.Command.{has_conflict}

-- what the arguments gave so far, and the option that awaits its value
pub record Reading : Type 0 where
  pub command : CommandValue
  pub awaited : Option OptionWord

abbrev pub reading_value : code.Reading → Reading
reading_value r = record { command = command_value r.command; awaited = r.awaited }

abbrev pub into_reading : CommandValue → Reading
into_reading c = record { command = c; awaited = None }

-- a command with no names and options yet
abbrev pub bare_command : CommandWord → Reading
bare_command word = into_reading (record { word = word; names = []; options = NOTHING_GIVEN })

abbrev pub with_name : List ℕ → CommandValue → Option Reading
with_name word c =
    if is_name_of (row c.word).names word && nat_lt (length c.names) (row c.word).most
    then Some (into_reading (record c { names = c.names ++ word ∷ [] })) else None

abbrev pub is_in_range : Option (ℕ × ℕ) → ℕ → Bool
is_in_range (Some (least, most)) n = nat_le least n && nat_le n most
is_in_range None n = false

abbrev pub with_number : OptionWord → ℕ → CommandValue → Option Reading
with_number option n c =
    if is_in_range (option_row option).range n
    then Some (into_reading (record c { options = with_given option n c.options })) else None

abbrev pub with_value : OptionWord → List ℕ → CommandValue → Option Reading
with_value option word c = option_and_then (λ n. with_number option n c) (number_of word)

-- an option comes at most once, and one that takes a value awaits it
abbrev pub with_option : OptionWord → CommandValue → Option Reading
with_option option c =
    if is_given option c.options then None
    else if is_some (option_row option).range
    then Some (record { command = c; awaited = Some option })
    else Some (into_reading (record c { options = with_given option 0 c.options }))

-- one argument more: the value that an option awaits, or else an option or a name
abbrev pub with_next : Option OptionWord → List ℕ → CommandValue → Option Reading
with_next (Some option) word c = with_value option word c
with_next None word c =
    option_map_or (λ o. with_option o c) (option_in (row c.word).options word) (with_name word c)

abbrev pub with_word : List ℕ → Reading → Option Reading
with_word word r = with_next r.awaited word r.command

-- all arguments, one by one
unfoldable pub with_words : List (List ℕ) → Reading → Option Reading
with_words [] r = Some r
with_words (word ∷ rest) r = option_and_then (with_words rest) (with_word word r)

-- no option awaits its value, there are enough names, and no option excludes another
abbrev pub is_whole : Reading → Bool
is_whole r =
    (is_none r.awaited && nat_le (row r.command.word).least (length r.command.names))
    && not (has_conflict r.command.options)

abbrev pub into_command : Reading → Option CommandValue
into_command r = if is_whole r then Some r.command else None

abbrev pub read_by : List (List ℕ) → CommandWord → Option CommandValue
read_by rest word = option_and_then into_command (with_words rest (bare_command word))

-- the long form of an only argument
abbrev pub long_form : List ℕ → List ℕ
long_form word =
    if bytes_eq word (codes "-h") || bytes_eq word (codes "help") then codes "--help"
    else if bytes_eq word (codes "-V") || bytes_eq word (codes "version") then codes "--version"
    else word

-- the long form of two arguments: `help COMMAND` and `COMMAND --help` are `--help COMMAND`
abbrev pub long_form_pair : List ℕ → List ℕ → List (List ℕ)
long_form_pair first second =
    if bytes_eq first (codes "help") then codes "--help" ∷ second ∷ []
    else if bytes_eq second (codes "--help") then codes "--help" ∷ first ∷ []
    else first ∷ second ∷ []

-- the arguments in their long form
abbrev pub in_long_form : List (List ℕ) → List (List ℕ)
in_long_form (word ∷ []) = long_form word ∷ []
in_long_form (first ∷ second ∷ []) = long_form_pair first second
in_long_form words = words

-- the command that the first argument names, with what the rest gives
abbrev pub read_long_form : List (List ℕ) → Option CommandValue
read_long_form [] = None
read_long_form (first ∷ rest) = option_and_then (read_by rest) (command_word first)

-- the command that the arguments are
abbrev pub command_of : List (List ℕ) → Option CommandValue
command_of words = read_long_form (in_long_form words)
