use Rattle.std.proofs.Common.{◌≡◌, None}
use Rattle.det_io.specs.Traffic.{ShelfTraffic, SinkTraffic, shelf_run, sink_run}
use Rattle.probes.specs.Shows.{seen}
use Rattle.record_reader.specs.item_reader.StandsFor.{slot_of, room}
use Rattle.record_reader.proofs.Views.{Running}
use Rattle.cmd_records.specs.record_show.PrintedItems.{Kept, showing}
use Rattle.cmd_records.proofs.record_show.show_items.show_items.Given as goal

abbrev pub invariant-items : goal.invariant-items
invariant-items g l = record {
  running : Running (showing l.fn.printer.form (seen (λ b. (goal.Probe-dyn g (b.vtable, b.value)).life b.value) l.fn.audience)
      (seen (λ b. (goal.Probe-dyn g (b.vtable, b.value)).life b.value) l.audience) l.printer)
      (g.S.Slots.sees l.fn.shelf) (g.S.Slots.sees l.shelf) (slot_of l.fn.reader) l.reader (g.K.Sink.took l.fn.sink) (g.K.Sink.took l.sink);
  form : l.printer.form ≡ l.fn.printer.form;
  kept : Kept l.fn.printer.form.part (seen (λ b. (goal.Probe-dyn g (b.vtable, b.value)).life b.value) l.fn.audience)
      (seen (λ b. (goal.Probe-dyn g (b.vtable, b.value)).life b.value) l.audience);
  shelf_traffic : ShelfTraffic (shelf_run g.S.Slots.sees g.S.Slots.stays l.fn.shelf l.shelf) None;
  sink_traffic : SinkTraffic (sink_run g.K.Sink.took g.K.Sink.faults l.fn.sink l.sink) None;
}

abbrev pub decreases-items : goal.decreases-items
decreases-items g l = room l.reader
