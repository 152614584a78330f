use Rattle.std.proofs.Common.{◌≡◌, ◌-◌, ℕ, List, None}
use Rattle.det_values.specs.declared.frames.CycleInput.{CycleInput}
use Rattle.det_io.specs.Traffic.{ShelfTraffic, shelf_run}
use Rattle.stimulus.specs.slot_reader.StandsFor.{slot_of, events_of}
use Rattle.cmd_run.specs.chain.ChainEnds.{sink_runs}
use Rattle.cmd_run.specs.chain.ChainCycle.{BothTraffic}
use Rattle.cmd_run.proofs.lemmas.chain.Running.{Running}
use Rattle.cmd_run.proofs.chain.run_chain.chain_run.Given as goal

abbrev pub invariant-cycles : goal.invariant-cycles
invariant-cycles g l = record {
  running : (read : List ℕ) × (given : List CycleInput)
      × Running g.A.Job.meaning l.fn.first.recording.profile g.B.Job.meaning l.fn.second.recording.profile
      (g.S.Slots.sees l.fn.shelf) (g.S.Slots.sees l.shelf) (slot_of l.fn.stimulus)
      (sink_runs g.K.Sink.took g.K.Sink.faults l.fn.first_sink l.first_sink
      g.L.Sink.took g.L.Sink.faults l.fn.second_sink l.second_sink)
      l.stimulus l.first.recording l.second.recording read given;
  first_profile : l.first.recording.profile ≡ l.fn.first.recording.profile;
  second_profile : l.second.recording.profile ≡ l.fn.second.recording.profile;
  slot : slot_of l.stimulus ≡ slot_of l.fn.stimulus;
  events : events_of l.stimulus ≡ events_of l.fn.stimulus;
  shelf_traffic : ShelfTraffic (shelf_run g.S.Slots.sees g.S.Slots.stays l.fn.shelf l.shelf) None;
  sink_traffic : BothTraffic
      (sink_runs g.K.Sink.took g.K.Sink.faults l.fn.first_sink l.first_sink
      g.L.Sink.took g.L.Sink.faults l.fn.second_sink l.second_sink) None;
}

abbrev pub decreases-cycles : goal.decreases-cycles
decreases-cycles g l = 1000000 - l.first.recording.engine.cycles
