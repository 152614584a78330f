use Rattle.det_record_c.proofs.Whole.{whole_record}
use Rattle.det_record_c.proofs.record_c_laws.whole_record.Goals as goal

pub returns : goal.returns
returns c = whole_record
