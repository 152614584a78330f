-- Bytes that were read piece by piece, and what held before the last piece.
use Rattle.std.specs.Prelude.{◌≡◌, ◌≢◌, ℕ, ◌⊎◌, List, [], ◌++◌}

-- this held before the last piece of these bytes was read
pub record LastPiece (Before : List ℕ → Type 0) (read : List ℕ) : Type 0 where
  pub first : List ℕ
  pub last : List ℕ
  pub is : read ≡ first ++ last
  pub some : last ≢ []
  pub before : Before first

-- pieces were read only while this held of the bytes read so far
abbrev pub ReadsWhile : (List ℕ → Type 0) → List ℕ → Type 0
ReadsWhile Before read = (read ≡ []) ⊎ LastPiece Before read
