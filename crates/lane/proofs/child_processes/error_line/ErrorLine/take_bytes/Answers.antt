use Rattle.std.proofs.Common.{◌≡◌, ◌∙◌, ◌+◌, suc, refl, arith, get_or}
use Rattle.std.proofs.Math.Seq.{take-suc}
use Rattle.lane.specs.child_processes.ErrorLines.{line_of, prefix_of}
use Rattle.lane.proofs.lemmas.child_processes.ErrorLines.{took-none, took-on}
use Rattle.lane.proofs.child_processes.error_line.ErrorLine.take_bytes.Goals as goal

pub bytes-init : goal.bytes-init
bytes-init g c = record {
  prefix = refl;
  took = took-none (prefix_of c.args.self.now) (line_of c.args.self.now) (g.K.Sink.took c.args.err.now);
}

pub bytes-preserved : goal.bytes-preserved
bytes-preserved g c =
    let h = c.bytes.invariant in
    let on : suc c.bytes.index ≡ c.bytes.index + 1 = omega arith in
    record {
      prefix = c.take_byte.ensures.prefix ∙ h.prefix;
      took = took-on (prefix_of c.args.self.now) (prefix_of c.bytes.self) (line_of c.args.self.now) c.args.bytes.now
          (line_of c.bytes.self) (line_of c.take_byte.new.self) c.bytes.index (c.bytes.index + 1)
          (get_or c.args.bytes.now c.bytes.index 0) h.prefix on
          (take-suc c.args.bytes.now c.bytes.index 0 c.bytes-test.true) h.took c.in_ok-take_byte.ensures.took;
    }
