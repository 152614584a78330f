use Rattle.std.proofs.Common.{None}
use Rattle.det_io.specs.Traffic.{ShelfTraffic, SinkTraffic, shelf_run, sink_run}
use Rattle.record_reader.specs.item_reader.StandsFor.{slot_of, room}
use Rattle.record_reader.specs.SalvageState.{salvaging}
use Rattle.record_reader.proofs.Views.{Running}
use Rattle.record_reader.proofs.salvage_items.salvage_items.Given as goal

abbrev pub invariant-items : goal.invariant-items
invariant-items g l = record {
  running : Running (salvaging l.salvage) (g.S.Slots.sees l.fn.shelf) (g.S.Slots.sees l.shelf) (slot_of l.fn.reader) l.reader
      (g.K.Sink.took l.fn.sink) (g.K.Sink.took l.sink);
  shelf_traffic : ShelfTraffic (shelf_run g.S.Slots.sees g.S.Slots.stays l.fn.shelf l.shelf) None;
  sink_traffic : SinkTraffic (sink_run g.K.Sink.took g.K.Sink.faults l.fn.sink l.sink) None;
}

abbrev pub decreases-items : goal.decreases-items
decreases-items g l = room l.reader
