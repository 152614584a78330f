-- The arguments of `det_lane` and `det_twin`, which have no commands.
use Rattle.std.specs.Prelude.{ℕ, List, ◌&&◌, nat_le, Option, Some, None, option_and_then}
use Rattle.std.specs.Prelude.{if◌then◌else◌, codes}
use Rattle.std.specs.Str.{bytes_eq}
use Rattle.cli_words.specs.declared.text_word.TextWord.{TextWord}
use Rattle.cli_words.specs.declared.text_word.TextWord.TheVariants.{Help, Version}
use Rattle.cli_words.specs.Number.{number_of}
use Rattle.cli_words.specs.Reading.{long_form}

-- 2 to 8 copies
abbrev pub copy_words_in : ℕ → Option ℕ
copy_words_in n = if nat_le 2 n && nat_le n 8 then Some n else None

-- the number of copies that an argument spells in decimal
abbrev pub parse_copies : List ℕ → Option ℕ
parse_copies word = option_and_then copy_words_in (number_of word)

abbrev pub text_named : List ℕ → Option TextWord
text_named word =
    if bytes_eq word (codes "--help") then Some Help
    else if bytes_eq word (codes "--version") then Some Version
    else None

-- the text that an only argument asks for
abbrev pub text_word : List ℕ → Option TextWord
text_word word = text_named (long_form word)
