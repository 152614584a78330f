use Rattle.std.proofs.Common.{◌≤◌, ◌-◌, length, None}
use Rattle.det_io.specs.Shelf.{Reads}
use Rattle.det_io.specs.Traffic.{ShelfTraffic, shelf_run}
use Rattle.det_io.proofs.bounded_read.read_limited.Given as goal

abbrev pub invariant-pieces : goal.invariant-pieces
invariant-pieces g l = record {
  reads : Reads (g.S.Slots.sees l.fn.shelf) (g.S.Slots.sees l.shelf) l.slot l.bytes.items;
  within : length l.bytes.items ≤ l.most;
  traffic : ShelfTraffic (shelf_run g.S.Slots.sees g.S.Slots.stays l.fn.shelf l.shelf) None;
}

abbrev pub decreases-pieces : goal.decreases-pieces
decreases-pieces g l = l.most - length l.bytes.items
