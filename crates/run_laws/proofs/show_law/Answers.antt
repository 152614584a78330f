use Rattle.run_laws.proofs.Shown.{record_is_shown, demo_is_shown}
use Rattle.run_laws.proofs.show_law.Goals as goal

pub returns-clause-record : goal.returns-clause-record
returns-clause-record c = record_is_shown

pub returns-clause-demo : goal.returns-clause-demo
returns-clause-demo c = demo_is_shown
