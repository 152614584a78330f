use Rattle.det_values.proofs.FlatReading.{nothing_holds}
use Rattle.det_values.proofs.drawn_block.DrawnBlock.reuse_memory.Goals as goal

pub invariant_of-result : goal.invariant_of-result
invariant_of-result c = (nothing_holds _ c.clear.ensures.items).flat

pub returns : goal.returns
returns c = (nothing_holds _ c.clear.ensures.items).view
