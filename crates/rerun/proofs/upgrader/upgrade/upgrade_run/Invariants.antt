use Rattle.std.proofs.Common.{◌≡◌, ℕ, List, length, None}
use Rattle.det_values.specs.declared.frames.Frame.{Frame}
use Rattle.det_io.specs.Traffic.{ShelfTraffic, SinkTraffic, shelf_run, sink_run}
use Rattle.record_reader.specs.Frames.{slot_of, room}
use Rattle.rerun.specs.upgrader.UpgradeStart.{header_of}
use Rattle.rerun.specs.upgrader.UpgradedRecord.{in_format_two}
use Rattle.rerun.proofs.lemmas.checker.Departing.{inputs_of}
use Rattle.rerun.proofs.lemmas.upgrader.Going.{Running}
use Rattle.rerun.proofs.upgrader.upgrade.upgrade_run.Given as goal

abbrev pub invariant-reading : goal.invariant-reading
invariant-reading g l = record {
  running : (more : List ℕ) × (done : List Frame)
      × Running g.J.Job.meaning (header_of l.fn.original l.fn.recording.profile) (g.S.Slots.sees l.fn.shelf) (g.S.Slots.sees l.shelf)
      (slot_of l.fn.original.frames) (g.K.Sink.took l.fn.sink) (g.K.Sink.took l.sink) l.fn.original.frames l.original.frames l.recording
      more done × (l.upgrade.compared ≡ length done) × (l.upgrade.cycles ≡ length (inputs_of done));
  profile : l.recording.profile ≡ in_format_two (header_of l.fn.original l.fn.recording.profile);
  format : l.upgrade.format ≡ l.fn.original.format;
  slot : slot_of l.original.frames ≡ slot_of l.fn.original.frames;
  shelf_traffic : ShelfTraffic (shelf_run g.S.Slots.sees g.S.Slots.stays l.fn.shelf l.shelf) None;
  sink_traffic : SinkTraffic (sink_run g.K.Sink.took g.K.Sink.faults l.fn.sink l.sink) None;
}

abbrev pub decreases-reading : goal.decreases-reading
decreases-reading g l = room l.original.frames
