use Rattle.std.proofs.Common.{◌-◌, ℕ, List, None}
use Rattle.det_values.specs.declared.frames.CycleInput.{CycleInput}
use Rattle.det_io.specs.Traffic.{ShelfTraffic, SinkTraffic, shelf_run, sink_run}
use Rattle.probes.specs.Shows.{seen}
use Rattle.stimulus.specs.slot_reader.StandsFor.{slot_of}
use Rattle.recorder.proofs.Running.{Running}
use Rattle.recorder.proofs.stimulus_run.record_run.Given as goal

abbrev pub invariant-cycles : goal.invariant-cycles
invariant-cycles g l = record {
  running : (read : List ℕ) × (given : List CycleInput)
      × Running g.J.Job.meaning l.fn.recording.profile (g.S.Slots.sees l.fn.shelf) (g.S.Slots.sees l.shelf)
      (slot_of l.fn.stimulus) (g.K.Sink.took l.fn.sink) (g.K.Sink.took l.sink)
      (seen (λ b. (goal.Probe-dyn g (b.vtable, b.value)).life b.value) l.fn.audience)
      (seen (λ b. (goal.Probe-dyn g (b.vtable, b.value)).life b.value) l.audience) l.stimulus l.recording read given;
  shelf_traffic : ShelfTraffic (shelf_run g.S.Slots.sees g.S.Slots.stays l.fn.shelf l.shelf) None;
  sink_traffic : SinkTraffic (sink_run g.K.Sink.took g.K.Sink.faults l.fn.sink l.sink) None;
}

abbrev pub decreases-cycles : goal.decreases-cycles
decreases-cycles g l = 1000000 - l.recording.engine.cycles
