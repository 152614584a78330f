-- The bytes of elements in a record's Init.
use Rattle.std.specs.Prelude.{ℕ, List, ◌++◌, length}
use Rattle.det_values.specs.Spelling.{spelled_u16}

-- an element's bytes after their number
abbrev pub with_length : List ℕ → List ℕ
with_length bytes = spelled_u16 (length bytes) ++ bytes
