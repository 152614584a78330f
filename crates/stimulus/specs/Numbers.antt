-- Decimal numbers of a stimulus, whose grammar is this project's own: no leading zero, no plus
-- sign, no `-0`.
use Rattle.std.specs.Prelude.{ℕ, zero, suc, ◌+◌, ◌-◌, ◌*◌, ℤ, pos, negsuc, ◌==◌, nat_le, nat_lt}
use Rattle.std.specs.Prelude.{◌&&◌, List, [], ◌∷◌, length, take, drop, Option, None, Some}
use Rattle.std.specs.Prelude.{if◌then◌else◌, codes, option_map, option_and_then}
use Rattle.std.specs.Str.{bytes_eq}

-- the number that digits spell after those of `n`
unfoldable pub number_after : ℕ → List ℕ → Option ℕ
number_after n [] = Some n
number_after n (b ∷ bs) =
    if nat_le 48 b && nat_le b 57 then number_after (n * 10 + (b - 48)) bs else None

-- the number that these bytes spell, or none
unfoldable pub number : List ℕ → Option ℕ
number [] = None
number (b ∷ bs) = if b == 48 && nat_lt 0 (length bs) then None else number_after 0 (b ∷ bs)

-- the same below a limit
abbrev pub below : ℕ → Option ℕ → Option ℕ
below limit None = None
below limit (Some n) = if nat_lt n limit then Some n else None

-- the number after a minus sign; zero has none
abbrev pub as_negative : ℕ → Option ℤ
as_negative zero = None
as_negative (suc n) = Some (negsuc n)

-- the value of a sample that these bytes spell, from -10^12 to 10^12, or none
unfoldable pub value_of : List ℕ → Option ℤ
value_of bytes =
    if bytes_eq (take 1 bytes) (codes "-")
    then option_and_then as_negative (below 1000000000001 (number (drop 1 bytes)))
    else option_map pos (below 1000000000001 (number bytes))
