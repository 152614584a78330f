use Rattle.det_record_c.proofs.Putting.{puts_then}
use Rattle.det_record_c.proofs.put_frame.put_init.Goals as goal

pub returns-clause-puts : goal.returns-clause-puts
returns-clause-puts c =
    puts_then _ _ _ _ _ _ _ _ c.put_u8-at.ensures
    (puts_then _ _ _ _ _ _ _ _ c.put_u32-at.ensures c.put_elements.ensures.puts)
