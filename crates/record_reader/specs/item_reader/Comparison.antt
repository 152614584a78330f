-- The comparison of the next item of a record with one of another record in the same place.
use Rattle.std.specs.Prelude.{◌≡◌, ℕ, ◌<◌, List, [], ◌∷◌, ◌++◌, Result, Ok, Err}
use Rattle.det_io.specs.declared.failure.Failure.TheVariants.{Read, Write, OutOfMemory}
use Rattle.det_io.specs.declared.failure.Stopped.{Stopped}
use Rattle.det_io.specs.declared.failure.Stopped.TheVariants.{Refused, Failed}
use Rattle.record_grammar.specs.declared.record_fault.RecordFault.{RecordFault}
use Rattle.record_grammar.specs.declared.place.Place.{Place}
use Rattle.record_grammar.specs.declared.item.Item.{Item}
use Rattle.record_grammar.specs.Record.{items as items_in}
use Rattle.record_view.specs.declared.view.ItemView.{ItemView}
use Rattle.record_view.specs.Shows.{IsSpelling}
use Rattle.record_reader.specs.declared.item_reader.reader.ItemReader.{ItemReader}
use Rattle.record_reader.specs.declared.item_reader.comparison.Comparison.{Comparison}
use Rattle.record_reader.specs.declared.item_reader.comparison.Comparison.TheVariants as likes
use Rattle.record_reader.specs.item_reader.StandsFor.{StandsFor, ItemIs, RoomFell}

-- the items that were read don't go on with the item of these bytes
abbrev pub IsOther : ItemView → List ℕ → List ℕ → List Item → Type 0
IsOther view bytes read given = (item : Item) (others : List Item) → IsSpelling view item bytes
    → items_in read ≡ given ++ item ∷ others → ⊥

-- The equal item counts as returned, or the next item is returned. That one differs, if the other
-- record's item is of the place in which the reader was.
abbrev pub ComparisonIs : Result Comparison (Stopped RecordFault) → ItemView → List ℕ → Place
    → ItemReader → Type 0 → List ℕ → List Item → Type 0
ComparisonIs (Ok likes.Same) view bytes place r at_end read given =
    (item : Item) → IsSpelling view item bytes → StandsFor r read (given ++ item ∷ [])
ComparisonIs (Ok (likes.Other row)) view bytes place r at_end read given =
    ItemIs (Ok row) r at_end read given × (place ≡ view.place → IsOther view bytes read given)
ComparisonIs (Err (Refused f)) view bytes place r at_end read given =
    ItemIs (Err (Refused f)) r at_end read given
ComparisonIs (Err (Failed Read)) view bytes place r at_end read given = StandsFor r read given
ComparisonIs (Err (Failed Write)) view bytes place r at_end read given = ⊥
ComparisonIs (Err (Failed OutOfMemory)) view bytes place r at_end read given = Unit {0}

-- an item lowers the number of items that may come, and any other result leaves it
abbrev pub ComparisonFell : Result Comparison (Stopped RecordFault) → ℕ → ℕ → Type 0
ComparisonFell (Ok likes.Same) old new = new < old
ComparisonFell (Ok (likes.Other row)) old new = RoomFell (Ok row) old new
ComparisonFell (Err stop) old new = new ≡ old

-- what is returned without a comparison
abbrev pub OtherIs : Result Comparison (Stopped RecordFault) → ItemReader → Type 0
    → List ℕ → List Item → Type 0
OtherIs (Ok likes.Same) r at_end read given = ⊥
OtherIs (Ok (likes.Other row)) r at_end read given = ItemIs (Ok row) r at_end read given
OtherIs (Err stop) r at_end read given = ItemIs (Err stop) r at_end read given
