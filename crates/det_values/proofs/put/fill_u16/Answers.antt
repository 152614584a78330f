use Rattle.det_values.proofs.Filling.{filled}
use Rattle.det_values.proofs.put.fill_u16.Goals as goal

pub returns-clause-items : goal.returns-clause-items
returns-clause-items c = filled _ _ _ _ c.requires c.to_be_bytes-bytes.ensures
