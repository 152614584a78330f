-- What the slot of a record has left after its header.
use Rattle.std.proofs.Common.{◌≡◌, ◌<◌, ℕ, List, [], ◌++◌, sym, ap, ◌∙◌}
use Rattle.std.specs.Prelude.{Option, Some, IsSome}
use Rattle.std.specs.Option.{unwrap_or}
use Rattle.det_io.specs.Shelf.{ShelfState, Reads}
use Rattle.det_io.proofs.Opening.{opens-left, opens-new}
use Rattle.det_io.proofs.SlotReads.{reads-then, reads-told, reads-given}
use Rattle.record_reader.specs.Frames.{slot_of}
use Rattle.cli_answers.specs.Outcome.{known_bytes}
use Rattle.cli_answers.specs.Slots.{KeepsSlots}
use Rattle.cli_answers.proofs.Keeping.{keeps-read}
use Rattle.cli_answers.proofs.KnownBytes.{held}
use Rattle.run_setup.specs.declared.recorded_run.open_run.RecordedRun.{RecordedRun}
use Rattle.run_setup.specs.recorded_run.OpenedRun.{HasBegun}

module _ {first last : ShelfState} {name : List ℕ} {run : RecordedRun} (begun : HasBegun first last name run) where
  -- the bytes after those that were read, where they are known
  abbrev pub rest : List ℕ
  rest = unwrap_or (last.left (slot_of run.frames)) []

  -- they and the bytes that were read are the record
  pub rest-told : IsSome (first.holds name) → (last.left (slot_of run.frames) ≡ Some rest) × (begun.read ++ rest ≡ known_bytes first name)
  rest-told is_known =
      let left = opens-left (known_bytes first name) begun.opens (held (first.holds name) is_known) in
      let t = reads-told (known_bytes first name) begun.reads left in
      let is : rest ≡ t.0 = ap (λ (o : Option (List ℕ)). unwrap_or o []) t.1 in
      (t.1 ∙ ap Some (sym is), ap (λ (xs : List ℕ). begun.read ++ xs) is ∙ t.2)

  -- the reader's slot was given
  pub slot-given : slot_of run.frames < last.slots
  slot-given = reads-given (slot_of run.frames) begun.reads (opens-new begun.opens)

  -- reads of it keep the slots that were given before
  pub keeps-behind : {end : ShelfState} {more : List ℕ} → Reads last end (slot_of run.frames) more → KeepsSlots first end
  keeps-behind reads = keeps-read begun.opens (reads-then begun.reads reads)
