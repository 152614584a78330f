use Rattle.probes.proofs.Lives.{gap_told}
use Rattle.probes.proofs.gap.GapProbeProbe.report.Goals as goal

pub returns-clause-bytes : goal.returns-clause-bytes
returns-clause-bytes c = rw (gap_told c.args.self.now.last c.args.self.now.gap) c.gap_report_line.ensures.bytes
