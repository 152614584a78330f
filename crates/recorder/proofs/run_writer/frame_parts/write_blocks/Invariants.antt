use Rattle.std.proofs.Common.{◌≤◌, take}
use Rattle.std.specs.List.{flat_map}
use Rattle.det_values.specs.Spelling.{spelled_all}
use Rattle.det_io.specs.Sink.{Grew}
use Rattle.recorder.proofs.run_writer.frame_parts.write_blocks.Given as goal

abbrev pub invariant-loop-block : goal.invariant-loop-block
invariant-loop-block g l = record {
  grew : Grew (g.K.Sink.took l.initial.sink) (g.K.Sink.took l.sink) (flat_map spelled_all (take l.block-index l.blocks));
  counted : g.K.Sink.faults l.initial.sink ≤ g.K.Sink.faults l.sink;
}
