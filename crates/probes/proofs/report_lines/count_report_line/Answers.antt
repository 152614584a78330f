use Rattle.std.proofs.Common.{arith}
use Rattle.probes.proofs.Lengths.{count_short}
use Rattle.probes.proofs.report_lines.count_report_line.Goals as goal

pub report_line_bytes-requires : goal.report_line_bytes-requires
report_line_bytes-requires c = rw c.in_ok-text.ensures.ok (count_short c.args.finished c.args.refused (omega arith) (omega arith))
