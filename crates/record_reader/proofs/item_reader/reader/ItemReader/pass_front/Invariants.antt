use Rattle.std.proofs.Common.{◌≤◌, length, None}
use Rattle.det_io.specs.Traffic.{ShelfTraffic, shelf_run}
use Rattle.record_reader.specs.item_reader.Fronts.{Passing}
use Rattle.record_reader.specs.item_reader.Steps.{countable}
use Rattle.record_reader.proofs.item_reader.reader.ItemReader.pass_front.Given as goal

abbrev pub invariant-pieces : goal.invariant-pieces
invariant-pieces g l = record {
  within : l.matched ≤ length l.bytes;
  passing : Passing l.bytes l.matched (g.S.Slots.sees l.fn.shelf) (g.S.Slots.sees l.shelf) l.fn.self l.self;
  traffic : ShelfTraffic (shelf_run g.S.Slots.sees g.S.Slots.stays l.fn.shelf l.shelf) None;
}

abbrev pub decreases-pieces : goal.decreases-pieces
decreases-pieces g l = countable l.self
