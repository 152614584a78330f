-- A record that was opened and whose header was read.
use Rattle.std.specs.Prelude.{ℕ, List, [], ◌∷◌}
use Rattle.det_io.specs.Shelf.{ShelfState, Opens, Reads}
use Rattle.record_grammar.specs.declared.item.Item.TheVariants.{Header}
use Rattle.record_reader.specs.item_reader.StandsFor.{ReadsIfNeeded}
use Rattle.record_reader.specs.Frames.{StandsFor, slot_of}
use Rattle.run_setup.specs.declared.recorded_run.open_run.RecordedRun.{RecordedRun}

-- the name was opened as the reader's slot; these bytes were read from it, all of them needed for
-- the header; the header was given
pub record HasBegun (first last : ShelfState) (name : List ℕ) (run : RecordedRun) : Type 0 where
  pub opened : ShelfState
  pub read : List ℕ
  pub opens : Opens first opened name (slot_of run.frames)
  pub reads : Reads opened last (slot_of run.frames) read
  pub needed : ReadsIfNeeded [] [] read
  pub gave : StandsFor run.frames read (Header run.profile ∷ [])
