use Rattle.det_record_c.proofs.Fields.{drawn_two}
use Rattle.det_record_c.proofs.put_frame.put_drawn.Goals as goal

pub returns-in-Two-clause-puts : goal.returns-in-Two-clause-puts
returns-in-Two-clause-puts c =
    drawn_two c.args.format c.args.at c.args.draws _ _ c.args.bytes.now _ _ _ c.in-Two.is c.put_element-at.ensures.puts c.put_u32.ensures
