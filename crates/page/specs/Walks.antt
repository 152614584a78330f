-- What a walk over a record has left, and what it gives.
use Rattle.std.specs.Prelude.{◌≡◌, ℕ, suc, List, ◌∷◌, length}
use Rattle.det_values.specs.declared.frames.Frame.TheVariants as frames
use Rattle.det_values.specs.declared.frames.Outcome.{Outcome}
use Rattle.det_values.specs.declared.frames.Outcome.TheVariants as outcomes
use Rattle.det_values.specs.declared.frames.RunFrame.{RunFrame}
use Rattle.record_grammar.specs.declared.item.Item.{Item}
use Rattle.record_grammar.specs.declared.item.Item.TheVariants as items
use Rattle.record_grammar.specs.Record.{items as items_in, Decoded, decoded}
use Rattle.record_codec.specs.Parts.{ShowsRun}
use Rattle.record_reader.specs.InItems.{runs_in}
use Rattle.record_view.specs.Shows.{Shows}
use Rattle.page.specs.declared.record_walk.LentItem.{LentItem}
use Rattle.page.specs.declared.record_walk.LentRun.{LentRun}
use Rattle.page.specs.declared.record_walk.LentOutcome.{LentOutcome}
use Rattle.page.specs.declared.record_walk.LentOutcome.TheVariants.{Finished, Refused}
use Rattle.page.specs.declared.record_walk.RecordWalk.{RecordWalk}

-- the runs of a record, up to its end or its fault
abbrev pub runs_of : List ℕ → List RunFrame
runs_of bytes = runs_in (items_in bytes)

-- the items that are still to be read, and how the record ends
abbrev pub left : RecordWalk → Decoded
left w = decoded (suc (length w.rest.now)) w.place w.rest.now

abbrev pub runs_left : RecordWalk → List RunFrame
runs_left w = runs_in (left w).items

-- this item comes first of those that were left
pub record IsItemNext (x : LentItem) (old new : Decoded) : Type 0 where
  pub item : Item
  pub shows : Shows x.view.place x.view.span x.bytes.now item
  pub items : old.items ≡ item ∷ new.items
  pub ending : new.ending ≡ old.ending

-- these bytes begin with the Run frame
abbrev pub IsRunOf : LentRun → RunFrame → Type 0
IsRunOf x run = ShowsRun x.place x.input x.outcome x.len x.bytes.now run

abbrev pub IsRunItem : LentRun → Item → Type 0
IsRunItem x item = (run : RunFrame) × (item ≡ items.Frame (frames.Run run)) × IsRunOf x run

-- the parts of an outcome
abbrev pub IsOutcomeOf : LentOutcome → Outcome → Type 0
IsOutcomeOf (Finished count elements output) (outcomes.Finished es bytes) =
    (elements ≡ es) × (output.now ≡ bytes) × (length es ≡ count)
IsOutcomeOf (Refused at) (outcomes.Refused place) = at ≡ place
IsOutcomeOf x outcome = ⊥
