use Rattle.probes.proofs.Lives.{refusal_told, refusal_stays}
use Rattle.probes.proofs.first_refusal.FirstRefusalProbeProbe.report.Goals as goal

pub returns-clause-bytes : goal.returns-clause-bytes
returns-clause-bytes c = rw (refusal_told c.args.self.now.seen c.args.self.now.at) c.refusal_report_line.ensures.bytes

pub returns-clause-stays : goal.returns-clause-stays
returns-clause-stays c = refusal_stays c.args.self.now.seen c.args.self.now.at
