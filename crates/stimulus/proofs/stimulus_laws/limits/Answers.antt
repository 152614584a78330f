use Rattle.stimulus.proofs.Counting.{few_blocks}
use Rattle.stimulus.proofs.Growing.{blocks_within}
use Rattle.stimulus.proofs.stimulus_laws.limits.Goals as goal

pub returns-clause-few : goal.returns-clause-few
returns-clause-few c = few_blocks

pub returns-clause-inputs : goal.returns-clause-inputs
returns-clause-inputs c = blocks_within
