use Rattle.std.proofs.Common.{List, None}
use Rattle.det_io.specs.Traffic.{ShelfTraffic, shelf_run}
use Rattle.record_grammar.specs.declared.item.Item.{Item}
use Rattle.record_reader.specs.item_reader.StandsFor.{room}
use Rattle.copies.specs.CompareCopies.{ReadsAmong}
use Rattle.copies.specs.Copies.{AreCopiesAfter}
use Rattle.copies.proofs.side_by_side.compare.Given as goal

abbrev pub invariant-rows : goal.invariant-rows
invariant-rows g l = record {
  stand : (given : List Item) × AreCopiesAfter (g.S.Slots.sees l.fn.shelf) (g.S.Slots.sees l.shelf) given l.slots l.copies;
  reads : ReadsAmong (g.S.Slots.sees l.fn.shelf) (g.S.Slots.sees l.shelf) l.slots;
  traffic : ShelfTraffic (shelf_run g.S.Slots.sees g.S.Slots.stays l.fn.shelf l.shelf) None;
}

abbrev pub decreases-rows : goal.decreases-rows
decreases-rows g l = room l.copies.first
