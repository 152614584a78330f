use Rattle.det_reading_c.proofs.Elements.{no_element}
use Rattle.det_reading_c.proofs.frame_parts.first_element.Goals as goal

pub returns-in-Err : goal.returns-in-Err
returns-in-Err c = no_element c.args.format c.in-Err.field-0 c.args.bytes.now c.in-Err.ensures.gives
