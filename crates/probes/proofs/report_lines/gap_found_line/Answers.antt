use Rattle.std.proofs.Common.{arith}
use Rattle.probes.proofs.Lengths.{gap_short}
use Rattle.probes.proofs.report_lines.gap_found_line.Goals as goal

pub report_line_bytes-requires : goal.report_line_bytes-requires
report_line_bytes-requires c = rw c.in_ok-text.ensures.ok (gap_short c.args.gap (omega arith))
