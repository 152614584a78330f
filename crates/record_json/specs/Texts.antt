-- Texts of JSON (RFC 8259): strings, numbers, and the values of an array with commas between them.
use Rattle.std.specs.Prelude.{ℕ, ℤ, ◌^◌, List, [], ◌∷◌, ◌++◌, nat_le, unsigned_abs, codes, decimal}
use Rattle.std.specs.Prelude.{if◌then◌else◌}
use Rattle.std.specs.Fmt.{signed_decimal}
use Rattle.std.specs.List.{flat_map}
use Rattle.hex.specs.Hex.{encode_lower}

-- a string of characters that need no escape
abbrev pub string_text : List ℕ → List ℕ
string_text text = codes "\"" ++ (text ++ codes "\"")

-- bytes as a string of hex digits
abbrev pub bytes_text : List ℕ → List ℕ
bytes_text bytes = string_text (encode_lower bytes)

-- Many readers hold a number as a double, which is exact up to 2^53. A greater number is a string
-- (RFC 8259, section 6).
abbrev pub number_text : ℕ → List ℕ
number_text n = if nat_le n (2 ^ 53) then decimal n else string_text (decimal n)

abbrev pub signed_text : ℤ → List ℕ
signed_text n =
    if nat_le (unsigned_abs n) (2 ^ 53) then signed_decimal n else string_text (signed_decimal n)

-- the texts of things with commas between them
abbrev pub listed : {A : Type 0} → (A → List ℕ) → List A → List ℕ
listed text [] = []
listed text (x ∷ xs) = text x ++ flat_map (λ y. codes "," ++ text y) xs
