use Rattle.det_values.proofs.FlatReading.{held}
use Rattle.det_values.proofs.drawn_block.DrawnBlock.spelled.Goals as goal

pub returns-clause-fields : goal.returns-clause-fields
returns-clause-fields c = (held _ _ _ c.self.view_is c.self.invariant).2
