use Rattle.std.proofs.Common.{◌≡◌, ◌-◌, ℕ, List, None}
use Rattle.det_values.specs.declared.frames.CycleInput.{CycleInput}
use Rattle.det_io.specs.Traffic.{ShelfTraffic, SinkTraffic, shelf_run, sink_run}
use Rattle.record_reader.specs.Frames.{slot_of}
use Rattle.rerun.proofs.lemmas.replayer.Running.{Running}
use Rattle.rerun.proofs.replayer.replay.replay_run.Given as goal

abbrev pub invariant-cycles : goal.invariant-cycles
invariant-cycles g l = record {
  running : (more : List ℕ) × (given : List CycleInput)
      × Running g.J.Job.meaning l.fn.recording.profile (g.S.Slots.sees l.fn.shelf) (g.S.Slots.sees l.shelf) (slot_of l.fn.frames)
      (g.K.Sink.took l.fn.sink) (g.K.Sink.took l.sink) l.fn.frames l.frames l.recording more given;
  profile : l.recording.profile ≡ l.fn.recording.profile;
  slot : slot_of l.frames ≡ slot_of l.fn.frames;
  shelf_traffic : ShelfTraffic (shelf_run g.S.Slots.sees g.S.Slots.stays l.fn.shelf l.shelf) None;
  sink_traffic : SinkTraffic (sink_run g.K.Sink.took g.K.Sink.faults l.fn.sink l.sink) None;
}

abbrev pub decreases-cycles : goal.decreases-cycles
decreases-cycles g l = 1000000 - l.recording.engine.cycles
