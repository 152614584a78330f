-- What a command that prints as it reads has written when a read fails.
use Rattle.std.specs.Prelude.{◌≡◌, ℕ, ◌⊎◌, List, [], ◌++◌, Some}
use Rattle.det_io.specs.Shelf.{ShelfState}
use Rattle.det_io.specs.Sink.{Grew}
use Rattle.det_io.specs.Traffic.{SinkRun}
use Rattle.cli_answers.specs.Outcome.{known_bytes}

-- The bytes `read` of a name were read, the first name that was opened, and `out` took what is
-- written of them.
pub record BreaksOff (first last : ShelfState) (name : List ℕ) (written : List ℕ → List ℕ)
    (out : SinkRun) : Type 0 where
  pub read : List ℕ
  pub rest : List ℕ
  pub all : known_bytes first name ≡ read ++ rest
  -- the name's slot has the rest left, or the name couldn't be opened
  pub left : (last.left first.slots ≡ Some rest) ⊎ ((last.slots ≡ first.slots) × (read ≡ []))
  pub grew : Grew out.before out.after (written read)
