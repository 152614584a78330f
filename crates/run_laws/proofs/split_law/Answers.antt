use Rattle.run_laws.proofs.Split.{split_is_common}
use Rattle.run_laws.proofs.split_law.Goals as goal

pub returns : goal.returns
returns c = split_is_common
