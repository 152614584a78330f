use Rattle.std.proofs.Common.{arith}
use Rattle.probes.proofs.Lengths.{limit_short}
use Rattle.probes.proofs.report_lines.limit_report_line.Goals as goal

pub report_line_bytes-requires : goal.report_line_bytes-requires
report_line_bytes-requires c = rw c.in_ok-text.ensures.ok (limit_short c.args.seen c.args.refused (omega arith) (omega arith))
