use Rattle.run_laws.proofs.Commands.{record_read, demo_read}
use Rattle.run_laws.proofs.decode_law.Goals as goal

pub returns-clause-record : goal.returns-clause-record
returns-clause-record c = record_read

pub returns-clause-demo : goal.returns-clause-demo
returns-clause-demo c = demo_read
