use Rattle.std.proofs.Common.{◌≡◌, ℕ, List, length, map, Option, None}
use Rattle.det_io.specs.Shelf.{ShelfState}
use Rattle.det_io.specs.Traffic.{ShelfTraffic, shelf_run}
use Rattle.record_grammar.specs.declared.item.Item.{Item}
use Rattle.record_reader.specs.item_reader.StandsFor.{slot_of}
use Rattle.copies.specs.CompareCopies.{AreDifferent, ReadsAmong}
use Rattle.copies.specs.Needed.{AllNeeded}
use Rattle.copies.specs.ItemRows.{AreReadersAfter, IsSpelledBy}
use Rattle.copies.specs.Copies.{row_of}
use Rattle.copies.proofs.SideBySide.{HaveOthers}
use Rattle.copies.proofs.copy_readers.compare_others.Given as goal

abbrev pub invariant-others : goal.invariant-others
invariant-others g l = record {
  others : (first : ShelfState) (given : List Item) (slots : List ℕ) (ours : Option Item)
      → IsSpelledBy l.item l.bytes ours → AreDifferent slots
      → AreReadersAfter first (g.S.Slots.sees l.fn.shelf) given slots l.fn.readers → l.row ≡ length given
      → HaveOthers l.index l.found (row_of ours) first (g.S.Slots.sees l.shelf) given slots l.readers;
  needed : (first : ShelfState) (given : List Item) (slots : List ℕ) (ours : Option Item)
      → IsSpelledBy l.item l.bytes ours → AreDifferent slots → AreReadersAfter first (g.S.Slots.sees l.fn.shelf) given slots l.fn.readers
      → l.row ≡ length given → AllNeeded first (g.S.Slots.sees l.shelf) (length given) slots;
  reads : ReadsAmong (g.S.Slots.sees l.fn.shelf) (g.S.Slots.sees l.shelf) (map slot_of l.fn.readers);
  slots : map slot_of l.readers ≡ map slot_of l.fn.readers;
  traffic : ShelfTraffic (shelf_run g.S.Slots.sees g.S.Slots.stays l.fn.shelf l.shelf) None;
}
