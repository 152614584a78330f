-- Numbers of a fixed width, the highest byte first, each within limits. A number is refused at the
-- first of its bytes after which no number within the limits is left.
use Rattle.std.specs.Prelude.{ℕ, zero, suc, ◌+◌, ◌*◌, ◌^◌, ◌≤◌, ◌⊎◌, Bool, List, [], ◌∷◌, length}
use Rattle.std.specs.Prelude.{nat_le, ◌&&◌, ◌||◌, if◌then◌else◌}
use Rattle.record_grammar.specs.declared.limits.Limits.{Limits}
use Rattle.record_grammar.specs.declared.limits.Limits.TheVariants.{Between, Around}
use Rattle.record_grammar.specs.declared.record_fault.Reason.TheVariants.{Range}
use Rattle.record_grammar.specs.Read.{Read, Got, More, Bad}

-- the values of a field, as numbers without a sign
abbrev pub IsWithin : Limits → ℕ → Type 0
IsWithin (Between least most) n = (least ≤ n) × (n ≤ most)
IsWithin (Around most) n = (n ≤ most) ⊎ (2 ^ 64 ≤ n + most)

-- the least and the greatest number that begin with the bytes of `v` and have `left` more bytes
unfoldable pub lowest : ℕ → ℕ → ℕ
lowest zero v = v
lowest (suc left) v = lowest left (v * 256)

unfoldable pub highest : ℕ → ℕ → ℕ
highest zero v = v
highest (suc left) v = highest left (v * 256 + 255)

-- some number within the limits begins with the bytes of `v` and has `left` more bytes
abbrev pub can_be : Limits → ℕ → ℕ → Bool
can_be (Between least most) left v = nat_le least (highest left v) && nat_le (lowest left v) most
can_be (Around most) left v = nat_le (lowest left v) most || nat_le (2 ^ 64) (highest left v + most)

-- the rest of a number: the bytes of `v` were read, and `left` bytes are left
unfoldable pub number_from : Limits → ℕ → ℕ → List ℕ → Read ℕ
number_from limits zero v bytes = Got (v, bytes)
number_from limits (suc left) v [] = More
number_from limits (suc left) v (b ∷ bytes) =
    if can_be limits left (v * 256 + b) then number_from limits left (v * 256 + b) bytes
    else Bad Range (length (b ∷ bytes))

-- a number of `width` bytes, from `least` to `most`
abbrev pub number : ℕ → ℕ → ℕ → List ℕ → Read ℕ
number width least most bytes = number_from (Between least most) width 0 bytes
