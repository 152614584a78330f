-- The bytes that a sink took, as a relation between the sink and lists of bytes.
use Rattle.std.specs.Prelude.{ℕ, List, ◌++◌}
use Rattle.det_io.specs.Prefix.{IsPrefix, IsProperPrefix}

-- the sink took these bytes: each list that was related before is now related with the bytes after
-- it
pub record Grew (before after : List ℕ → Type 0) (bytes : List ℕ) : Type 0 where
  pub each : (m : List ℕ) → before m → after (m ++ bytes)

-- the sink took nothing
pub record Same (before after : List ℕ → Type 0) : Type 0 where
  pub kept : (m : List ℕ) → before m → after m
  pub no_more : (m : List ℕ) → after m → before m

-- the sink took a prefix of these bytes
abbrev pub GrewByPrefix : (List ℕ → Type 0) → (List ℕ → Type 0) → List ℕ → Type 0
GrewByPrefix before after bytes = (front : List ℕ) × IsPrefix front bytes × Grew before after front

-- the sink took a prefix of these bytes, and not all of them
abbrev pub GrewShort : (List ℕ → Type 0) → (List ℕ → Type 0) → List ℕ → Type 0
GrewShort before after bytes = (front : List ℕ) × IsProperPrefix front bytes
    × Grew before after front
