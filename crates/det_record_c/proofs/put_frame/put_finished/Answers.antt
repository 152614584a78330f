use Rattle.det_record_c.proofs.Putting.{puts_then}
use Rattle.det_record_c.proofs.put_frame.put_finished.Goals as goal

pub returns-clause-puts : goal.returns-clause-puts
returns-clause-puts c =
    puts_then _ _ _ _ _ _ _ _ c.put_opening-at.ensures.puts
    (puts_then _ _ _ _ _ _ _ _ c.put_all_drawn-at.ensures.puts c.put_closing.ensures.puts)
