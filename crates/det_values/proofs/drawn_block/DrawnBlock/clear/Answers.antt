use Rattle.det_values.proofs.FlatReading.{nothing_holds}
use Rattle.det_values.proofs.drawn_block.DrawnBlock.clear.Goals as goal

pub invariant_of-self : goal.invariant_of-self
invariant_of-self c = (nothing_holds _ c.clear.ensures.items).flat

pub returns : goal.returns
returns c = (nothing_holds _ c.clear.ensures.items).view
