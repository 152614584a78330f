-- What a crew ensures that runs the rest of a record again, after its header was read.
use Rattle.std.specs.Prelude.{◌≡◌, ℕ, List, [], ◌∷◌, ◌++◌, true, Some}
use Rattle.det_values.specs.Values.{ProfileValue}
use Rattle.det_io.specs.Count.{Rose}
use Rattle.det_io.specs.Shelf.{Reads}
use Rattle.det_io.specs.Traffic.{ShelfRun, SinkRun}
use Rattle.record_grammar.specs.declared.item.Item.TheVariants.{Header}
use Rattle.record_reader.specs.declared.frame_reader.FrameReader.{FrameReader}
use Rattle.record_reader.specs.Frames.{StandsFor, slot_of}
use Rattle.cli_answers.specs.declared.answer.Answer.{Answer}
use Rattle.cli_answers.specs.Ends.{Work, can_end}
use Rattle.cli_answers.specs.Outcome.{Outcome, Meets}

-- the answer meets what the bytes of the record give, those that the reader had read and the rest;
-- only the record's slot was read
pub record IsRerun (wanted : List ℕ → Outcome) (work : Work) (header : ProfileValue)
    (frames : FrameReader) (shelf : ShelfRun) (sink : SinkRun) (answer : Answer) : Type 0 where
  pub meets : (read rest : List ℕ) → StandsFor frames read (Header header ∷ [])
      → Meets (wanted (read ++ rest)) (shelf.first.left (slot_of frames) ≡ Some rest)
      (Rose shelf.first.faults shelf.last.faults) sink answer
  pub ends : can_end work answer ≡ true
  pub reads : (read : List ℕ) → StandsFor frames read (Header header ∷ [])
      → (more : List ℕ) × Reads shelf.first shelf.last (slot_of frames) more
