use Rattle.det_values.proofs.FlatReading.{held}
use Rattle.det_values.proofs.drawn_block.DrawnBlock.len.Goals as goal

pub returns-clause-len : goal.returns-clause-len
returns-clause-len c = (held _ _ _ c.self.view_is c.self.invariant).1
