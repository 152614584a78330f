use Rattle.det_values.proofs.Undrawing.{four_set}
use Rattle.det_values.proofs.clear_draws.fill_zero.Goals as goal

pub returns : goal.returns
returns c = four_set _ _ c.requires
