-- Bytes whose front a sink took, while the rest is held.
use Rattle.std.specs.Prelude.{◌≡◌, ℕ, List, ◌++◌}
use Rattle.det_io.specs.Sink.{Grew}

-- the sink took a front of these bytes, and the rest of them is held
pub record TakesFront (before after : List ℕ → Type 0) (bytes held : List ℕ) : Type 0 where
  pub front : List ℕ
  pub grew : Grew before after front
  pub is : bytes ≡ front ++ held
