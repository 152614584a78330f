-- Rows that are read by a reader of views, and what the reader gave before.
use Rattle.std.specs.Prelude.{◌≡◌, ℕ, List, [], ◌∷◌, ◌++◌, length, Option, Some, None}
use Rattle.det_io.specs.Shelf.{ShelfState, Gave, IsAtEnd}
use Rattle.record_grammar.specs.declared.record_fault.Reason.TheVariants.{Truncated}
use Rattle.record_grammar.specs.declared.item.Item.{Item}
use Rattle.record_view.specs.declared.view.ItemView.{ItemView}
use Rattle.record_view.specs.Shows.{IsSpelling}
use Rattle.record_reader.specs.declared.item_reader.reader.ItemReader.{ItemReader}
use Rattle.record_reader.specs.item_reader.StandsFor.{StandsFor, Holds, slot_of}
use Rattle.copies.specs.declared.row.Row.{Row}
use Rattle.copies.specs.declared.row.Row.TheVariants as rows
use Rattle.copies.specs.Rows.{ShowsRow}
use Rattle.copies.specs.CompareCopies.{ReadsAmong}
use Rattle.copies.specs.Needed.{IsNeeded, GaveNeeded}

-- a reader gave these items of what its slot had at first
pub record IsReaderAfter (first now : ShelfState) (given : List Item) (slot : ℕ)
    (reader : ItemReader) : Type 0 where
  pub read : List ℕ
  pub at : slot_of reader ≡ slot
  pub gave : Gave first now slot read
  pub stands : StandsFor reader read given
  pub needed : IsNeeded (length given) read

-- the same of readers, one a slot
abbrev pub AreReadersAfter : ShelfState → ShelfState → List Item → List ℕ → List ItemReader → Type 0
AreReadersAfter first now given [] [] = Unit {0}
AreReadersAfter first now given (slot ∷ slots) (reader ∷ readers) =
    IsReaderAfter first now given slot reader × AreReadersAfter first now given slots readers
AreReadersAfter first now given slots readers = ⊥

-- a row was read from the slot of a reader, and no byte after the row
pub record ReadsRow (before after : ShelfState) (old new : ItemReader) : Type 0 where
  pub needed : (first : ShelfState) (given : List Item) (slot : ℕ)
      → IsReaderAfter first before given slot old → GaveNeeded first after (length given) slot
  pub among : ReadsAmong before after (slot_of old ∷ [])
  pub slot : slot_of new ≡ slot_of old

-- where a reader is after a row
abbrev pub ReaderGoesOn : Row → ItemReader → Type 0 → List ℕ → List Item → Type 0
ReaderGoesOn (rows.Item item) reader at_end read given = StandsFor reader read (given ++ item ∷ [])
ReaderGoesOn rows.Whole reader at_end read given = at_end
ReaderGoesOn (rows.Fault found) reader at_end read given = found.reason ≡ Truncated → at_end

-- the row after the items given, of each record that begins with the bytes read
pub record ReaderShows (row : Row) (reader : ItemReader) (at_end : Type 0) (read : List ℕ)
    (given : List Item) : Type 0 where
  pub shows : (rest : List ℕ) → (at_end → rest ≡ []) → ShowsRow given row (read ++ rest)
  pub on : ReaderGoesOn row reader at_end read given

-- a reader gave these items, and then this row
pub record ReaderAtRow (first now : ShelfState) (given : List Item) (slot : ℕ) (reader : ItemReader)
    (row : Row) : Type 0 where
  pub read : List ℕ
  pub at : slot_of reader ≡ slot
  pub gave : Gave first now slot read
  pub shown : ReaderShows row reader (IsAtEnd now slot) read given
  pub needed : IsNeeded (length given) read

-- the same of readers, one a slot
abbrev pub ReadersAtRows : ShelfState → ShelfState → List Item → List ℕ → List ItemReader
    → List Row → Type 0
ReadersAtRows first now given [] [] [] = Unit {0}
ReadersAtRows first now given (slot ∷ slots) (reader ∷ readers) (row ∷ more) =
    ReaderAtRow first now given slot reader row × ReadersAtRows first now given slots readers more
ReadersAtRows first now given slots readers more = ⊥

-- ---- a row without a fault, as its item; none is the end

-- the item that was given last is held in memory
abbrev pub IsHeldAs : Option ItemView → ItemReader → Option Item → Type 0
IsHeldAs (Some view) reader (Some item) = Holds reader view item
IsHeldAs None reader None = Unit {0}
IsHeldAs view reader item = ⊥

-- these are the bytes of the item
abbrev pub IsSpelledBy : Option ItemView → List ℕ → Option Item → Type 0
IsSpelledBy (Some view) bytes (Some item) = IsSpelling view item bytes
IsSpelledBy None bytes None = Unit {0}
IsSpelledBy view bytes item = ⊥
