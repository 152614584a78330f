-- Bytes that are put at a place of the room that C gave.
use Rattle.std.specs.Prelude.{◌≡◌, ℕ, ◌+◌, ◌≤◌, min, List, ◌++◌, length, take, drop}

abbrev pub with_bytes_at : ℕ → List ℕ → List ℕ → List ℕ
with_bytes_at at bytes room = take at room ++ (bytes ++ drop (at + length bytes) room)

-- The bytes were put at a place if they fit, and `end` is the place after them. It stops at the
-- greatest number.
pub record Puts (at : ℕ) (bytes old : List ℕ) (end : ℕ) (new : List ℕ) : Type 0 where
  pub counted : end ≡ min (at + length bytes) 18446744073709551615
  pub same_room : length new ≡ length old
  pub written : length old ≤ 18446744073709551615 → at + length bytes ≤ length old
      → new ≡ with_bytes_at at bytes old
