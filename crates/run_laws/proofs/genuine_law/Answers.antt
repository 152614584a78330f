use Rattle.run_laws.proofs.GenuineLaws.{genuine_is_replayed}
use Rattle.run_laws.proofs.genuine_law.Goals as goal

pub returns : goal.returns
returns c = genuine_is_replayed
