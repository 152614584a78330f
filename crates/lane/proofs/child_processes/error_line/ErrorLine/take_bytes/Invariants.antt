use Rattle.std.proofs.Common.{◌≡◌, take}
use Rattle.lane.specs.child_processes.ErrorLines.{line_of, prefix_of}
use Rattle.lane.specs.child_processes.ErrorTexts.{lines_after, not_written, Took}
use Rattle.lane.proofs.child_processes.error_line.ErrorLine.take_bytes.Given as goal

abbrev pub invariant-bytes : goal.invariant-bytes
invariant-bytes g l = record {
  prefix : prefix_of l.self ≡ prefix_of l.fn.self;
  took : Took (lines_after (prefix_of l.fn.self) (not_written (line_of l.fn.self)) (take l.index l.bytes)) (line_of l.self)
      (g.K.Sink.took l.fn.err) (g.K.Sink.took l.err);
}
