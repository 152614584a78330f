use Rattle.det_record_c.proofs.Fields.{header_spelled}
use Rattle.det_record_c.proofs.Putting.{puts_then, puts_as}
use Rattle.det_record_c.proofs.put_header.put_header.Goals as goal

pub returns-clause-puts : goal.returns-clause-puts
returns-clause-puts c =
    puts_as _ _ _ _ _ _ (header_spelled c.args.format c.args.profile.now c.args.params.now c.args.events.now)
    (puts_then _ _ _ _ _ _ _ _ c.put_numbers-at.ensures.puts
    (puts_then _ _ _ _ _ _ _ _ c.put_params-at.ensures.puts c.put_events.ensures))
