use Rattle.run_laws.proofs.Summed.{sim_is_recorded}
use Rattle.run_laws.proofs.sum_law.Goals as goal

pub returns : goal.returns
returns c = sim_is_recorded
