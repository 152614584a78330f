-- Arguments as a list of names and options, in which the laws say which arguments are a command.
use Rattle.std.specs.Prelude.{◌≡◌, ℕ, List, [], ◌∷◌, ◌++◌, map, Bool, true, is_some, flat_map}
use Rattle.std.specs.Prelude.{option_to_list, decimal, if◌then◌else◌}
use Rattle.std.specs.Str.{bytes_eq}
use Rattle.cli_words.specs.declared.table.OptionWord.{OptionWord}
use Rattle.cli_words.specs.declared.table.TheConstants.{OPTIONS}
use Rattle.cli_words.specs.declared.options.Options.{Options}
use Rattle.cli_words.specs.Names.{is_name}
use Rattle.cli_words.specs.Table.{row, option_row}
use Rattle.cli_words.specs.Command.{CommandValue}
use Rattle.cli_words.specs.Ranges.{value_of, IsWithin}
use Rattle.cli_words.specs.Reading.{in_long_form}

-- a name, or an option with its value; one that takes no value has 0
pub data Item : Type 0 where
  name : (word : List ℕ) → Item
  option : (word : OptionWord) (value : ℕ) → Item

-- an option's argument, and its value after it if it takes one
abbrev pub option_words : OptionWord → ℕ → List (List ℕ)
option_words o n =
    if is_some (option_row o).range then (option_row o).word ∷ decimal n ∷ []
    else (option_row o).word ∷ []

abbrev pub item_words : Item → List (List ℕ)
item_words (name word) = word ∷ []
item_words (option o n) = option_words o n

abbrev pub words_in : List Item → List (List ℕ)
words_in items = flat_map item_words items

abbrev pub names_in : List Item → List (List ℕ)
names_in [] = []
names_in (name word ∷ rest) = word ∷ names_in rest
names_in (option o n ∷ rest) = names_in rest

abbrev pub is_same : OptionWord → OptionWord → Bool
is_same o p = bytes_eq (option_row o).word (option_row p).word

-- the values that items give an option
abbrev pub values_in : OptionWord → List Item → List ℕ
values_in o [] = []
values_in o (name word ∷ rest) = values_in o rest
values_in o (option p n ∷ rest) =
    if is_same o p then n ∷ values_in o rest else values_in o rest

-- items give a command its names in order and its options, each once, with their values
pub record Gives (items : List Item) (c : CommandValue) : Type 0 where
  pub names : names_in items ≡ c.names
  pub options : (o : OptionWord) → values_in o items ≡ option_to_list (value_of o c.options)

-- the arguments, in their long form, are the command's word and then its names and options in any
-- order
abbrev pub IsSpelling : List (List ℕ) → CommandValue → Type 0
IsSpelling words c =
    (items : List Item) × (in_long_form words ≡ (row c.word).word ∷ words_in items) × Gives items c

-- a name, or an option with a value in its range
abbrev pub IsItem : Item → Type 0
IsItem (name word) = is_name word ≡ true
IsItem (option o n) = IsWithin (option_row o).range n

abbrev pub given_items : Options → OptionWord → List Item
given_items options o = map (λ n. option o n) (option_to_list (value_of o options))

-- the canonical arguments of a command: its word, its names, and its options in the table's order
abbrev pub words_of : CommandValue → List (List ℕ)
words_of c =
    (row c.word).word
    ∷ words_in (map (λ n. name n) c.names ++ flat_map (given_items c.options) OPTIONS)
