-- Reports as a line of JSON: a value with a string for each line of theirs.
use Rattle.std.specs.Prelude.{ℕ, List, [], ◌∷◌, ◌++◌, Bool, ◌&&◌, ◌||◌, not, nat_eq, nat_le, codes}
use Rattle.std.specs.Prelude.{if◌then◌else◌}
use Rattle.hex.specs.Hex.{encode_lower}

-- a printable ASCII character other than `"` and `\` needs no escape (RFC 8259, section 7)
abbrev pub is_plain : ℕ → Bool
is_plain b = (nat_le 32 b && nat_le b 126) && not (nat_eq b 34 || nat_eq b 92)

abbrev pub character_text : ℕ → List ℕ
character_text b = if is_plain b then b ∷ [] else codes "\\u00" ++ encode_lower (b ∷ [])

-- what stands where a line ends: nothing after the last one, which has the string's end behind it
abbrev pub line_end : List ℕ → List ℕ
line_end [] = []
line_end rest = codes "\",\""

abbrev pub report_byte : ℕ → List ℕ → List ℕ
report_byte b rest = if nat_eq b 10 then line_end rest else character_text b

unfoldable pub inner_text : List ℕ → List ℕ
inner_text [] = []
inner_text (b ∷ rest) = report_byte b rest ++ inner_text rest

-- reports are lines, each of which ends with a line feed
abbrev pub strings_text : List ℕ → List ℕ
strings_text [] = []
strings_text reports = codes "\"" ++ (inner_text reports ++ codes "\"")

abbrev pub reports_line : List ℕ → List ℕ
reports_line reports = codes "{\"reports\":[" ++ (strings_text reports ++ codes "]}\n")
