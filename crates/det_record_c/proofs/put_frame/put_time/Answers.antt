use Rattle.std.proofs.Common.{sym, ap}
use Rattle.record_grammar.specs.Spelling.{spelled_time}
use Rattle.det_record_c.proofs.Putting.{puts_then, puts_as}
use Rattle.det_record_c.proofs.put_frame.put_time.Goals as goal

pub returns-in-Some-clause-puts : goal.returns-in-Some-clause-puts
returns-in-Some-clause-puts c =
    puts_as _ _ _ _ _ _ (ap spelled_time (sym c.in-Some.is)) (puts_then _ _ _ _ _ _ _ _ c.put_u8-at.ensures c.put_u64.ensures)
