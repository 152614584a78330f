use Rattle.std.proofs.Common.{ap, subst}
use Rattle.record_grammar.specs.Spelling.{spelled_drawn, IsDrawn}
use Rattle.det_record_c.proofs.Putting.{puts_as}
use Rattle.det_record_c.proofs.Fields.{drawn_from}
use Rattle.det_record_c.proofs.put_frame.put_final.Goals as goal

pub returns-clause-puts : goal.returns-clause-puts
returns-clause-puts c =
    puts_as _ _ _ _ _ _
    (ap (spelled_drawn c.args.format) (drawn_from c.args.format c.used_bytes.result.now c.args.element.now c.used_bytes.ensures.bytes))
    c.put_drawn.ensures.puts

pub returns-clause-fields : goal.returns-clause-fields
returns-clause-fields c =
    subst (IsDrawn c.args.format) (drawn_from c.args.format c.used_bytes.result.now c.args.element.now c.used_bytes.ensures.bytes)
    c.put_drawn.ensures.fields
