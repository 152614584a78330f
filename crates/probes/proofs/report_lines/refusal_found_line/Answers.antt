use Rattle.std.proofs.Common.{arith}
use Rattle.probes.proofs.Lengths.{refusal_short}
use Rattle.probes.proofs.report_lines.refusal_found_line.Goals as goal

pub report_line_bytes-requires : goal.report_line_bytes-requires
report_line_bytes-requires c =
    rw (c.in_ok-text.ensures.ok, c.word-phase.ensures)
    (refusal_short c.args.seen (record { phase = c.args.phase; pass = c.args.pass; element = c.args.element; code = c.args.code })
    (omega arith) (omega arith) (omega arith) (omega arith))
