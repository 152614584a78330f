use Rattle.run_laws.proofs.GivenAgain.{record_is_replayed, demo_is_replayed}
use Rattle.run_laws.proofs.replay_law.Goals as goal

pub returns-clause-record : goal.returns-clause-record
returns-clause-record c = record_is_replayed

pub returns-clause-demo : goal.returns-clause-demo
returns-clause-demo c = demo_is_replayed
