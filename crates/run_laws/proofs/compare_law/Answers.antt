use Rattle.run_laws.proofs.Compared.{copies_are_compared}
use Rattle.run_laws.proofs.compare_law.Goals as goal

pub returns : goal.returns
returns c = copies_are_compared
