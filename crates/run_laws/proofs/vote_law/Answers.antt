use Rattle.run_laws.proofs.Voted.{majority_is_written, done_is_majority}
use Rattle.run_laws.proofs.vote_law.Goals as goal

pub returns-clause-written : goal.returns-clause-written
returns-clause-written c = majority_is_written

pub returns-clause-done : goal.returns-clause-done
returns-clause-done c = done_is_majority
