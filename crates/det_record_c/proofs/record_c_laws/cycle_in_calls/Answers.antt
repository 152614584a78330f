use Rattle.det_record_c.proofs.Running.{cycle_in_calls}
use Rattle.det_record_c.proofs.record_c_laws.cycle_in_calls.Goals as goal

pub returns : goal.returns
returns c = cycle_in_calls
