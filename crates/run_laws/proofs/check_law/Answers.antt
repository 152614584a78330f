use Rattle.run_laws.proofs.Checked.{record_is_checked, demo_is_checked}
use Rattle.run_laws.proofs.check_law.Goals as goal

pub returns-clause-record : goal.returns-clause-record
returns-clause-record c = record_is_checked

pub returns-clause-demo : goal.returns-clause-demo
returns-clause-demo c = demo_is_checked
