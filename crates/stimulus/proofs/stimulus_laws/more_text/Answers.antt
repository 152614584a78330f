use Rattle.stimulus.proofs.Growing.{blocks_grow, bad_stays}
use Rattle.stimulus.proofs.stimulus_laws.more_text.Goals as goal

pub returns-clause-blocks : goal.returns-clause-blocks
returns-clause-blocks c = blocks_grow

pub returns-clause-bad : goal.returns-clause-bad
returns-clause-bad c = bad_stays
