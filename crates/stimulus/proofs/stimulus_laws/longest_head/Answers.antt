use Rattle.stimulus.proofs.Heads.{is_head}
use Rattle.stimulus.proofs.stimulus_laws.longest_head.Goals as goal

pub returns : goal.returns
returns c = is_head
