-- The rows of a record: its items, and after them how it ends.
use Rattle.std.specs.Prelude.{◌≡◌, ℕ, List, [], ◌∷◌, length, drop, Option, Some, None}
use Rattle.det_io.specs.Prefix.{IsPrefix}
use Rattle.record_grammar.specs.declared.record_fault.RecordFault.{RecordFault}
use Rattle.record_grammar.specs.declared.item.Item.{Item}
use Rattle.record_grammar.specs.Record.{items, fault}
use Rattle.copies.specs.declared.row.Row.{Row}
use Rattle.copies.specs.declared.row.Row.TheVariants as rows

-- the first of these items, or the end after them
abbrev pub first_row : List Item → Option RecordFault → Row
first_row (item ∷ more) end = rows.Item item
first_row [] None = rows.Whole
first_row [] (Some found) = rows.Fault found

-- the row of a record after this number of items
abbrev pub row_at : ℕ → List ℕ → Row
row_at n bytes = first_row (drop n (items bytes)) (fault bytes)

-- these items come first in a record, and this row comes after them
pub record ShowsRow (given : List Item) (row : Row) (bytes : List ℕ) : Type 0 where
  pub begins : IsPrefix given (items bytes)
  pub is : row_at (length given) bytes ≡ row
