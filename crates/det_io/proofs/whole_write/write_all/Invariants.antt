use Rattle.std.proofs.Common.{◌≤◌, ◌-◌, length, take}
use Rattle.det_io.specs.Sink.{Grew}
use Rattle.det_io.proofs.whole_write.write_all.Given as goal

abbrev pub invariant-loop-done : goal.invariant-loop-done
invariant-loop-done g l = record {
  within : l.done ≤ length l.bytes;
  grew : Grew (g.K.Sink.took l.initial.sink) (g.K.Sink.took l.sink) (take l.done l.bytes);
  counted : g.K.Sink.faults l.initial.sink ≤ g.K.Sink.faults l.sink;
}

abbrev pub decreases-loop-done : goal.decreases-loop-done
decreases-loop-done g l = length l.bytes - l.done
