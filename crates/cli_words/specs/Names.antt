-- Arguments as lists of bytes, and which of them are names.
use Rattle.std.specs.Prelude.{ℕ, List, [], ◌∷◌, Bool, true, false, ◌&&◌, not, nat_eq, map, take}
use Rattle.std.specs.Prelude.{is_some, String, string_bytes}
use Rattle.std.specs.Global.{Global}
use Rattle.cli_words.specs.declared.table.NameKind.{NameKind}
use Rattle.cli_words.specs.declared.table.NameKind.TheVariants.{File, Number, Command}
use Rattle.cli_words.specs.declared.names.Names.{Names}
use Rattle.cli_words.specs.Number.{number_of}
use Rattle.cli_words.specs.Table.{command_word}

-- the arguments as lists of bytes
abbrev pub texts : List (String Global) → List (List ℕ)
texts words = map string_bytes words

-- the names in order
abbrev pub texts_of : Names → List (List ℕ)
texts_of names = map (λ text. text.now) (take names.count names.texts)

-- it isn't empty and doesn't begin with `-`
abbrev pub is_name : List ℕ → Bool
is_name [] = false
is_name (first ∷ rest) = not (nat_eq first 45)

-- any path is the name of a file, a number is decimal, a command is in the table
abbrev pub is_of_kind : NameKind → List ℕ → Bool
is_of_kind File word = true
is_of_kind Number word = is_some (number_of word)
is_of_kind Command word = is_some (command_word word)

abbrev pub is_name_of : NameKind → List ℕ → Bool
is_name_of kind word = is_name word && is_of_kind kind word
