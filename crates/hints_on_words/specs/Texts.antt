-- The texts of hints on arguments, and of those with names of files.
use Rattle.std.specs.Prelude.{ℕ, ◌+◌, List, [], ◌∷◌, ◌++◌, length, map, take, ◌&&◌, nat_le, nat_lt}
use Rattle.std.specs.Prelude.{codes, decimal, Option, None, Some, option_map, if◌then◌else◌}
use Rattle.hints_on_words.specs.declared.hint_lines.Help.{Help}

-- a byte that is a printable ASCII character, or `?`
abbrev pub printable : ℕ → ℕ
printable byte = if nat_le 32 byte && nat_le byte 126 then byte else 63

-- two dots if there are more bytes than are printed
abbrev pub dots : List ℕ → List ℕ
dots bytes = if nat_lt 64 (length bytes) then codes ".." else []

-- what is printed of untrusted bytes: the first 64, and dots
abbrev pub excerpt_text : List ℕ → List ℕ
excerpt_text bytes = map printable (take 64 bytes) ++ dots bytes

-- the line of a hint
abbrev pub hint_line : List ℕ → List ℕ
hint_line text = codes "  " ++ (text ++ codes "\n")

abbrev pub command_text : Option (List ℕ) → List ℕ
command_text (Some command) = command ++ codes " --help"
command_text None = codes "--help"

abbrev pub help_text : Help → List ℕ
help_text help = codes "see " ++ (help.program.now ++ (codes " "
    ++ command_text (option_map (λ word. word.now) help.command)))

-- a hint on the file of this name
abbrev pub named_text : List ℕ → List ℕ → List ℕ
named_text name text = excerpt_text name ++ (codes ": " ++ text)

-- the hint with the number of a copy and its name
abbrev pub copy_text : ℕ → List ℕ → List ℕ
copy_text number name = codes "copy " ++ (decimal number ++ (codes ": " ++ excerpt_text name))

-- the lines of copies with these names, counted on from this number
abbrev pub copy_lines : ℕ → List (List ℕ) → List ℕ
copy_lines number [] = []
copy_lines number (name ∷ names) =
    hint_line (copy_text number name) ++ copy_lines (number + 1) names
