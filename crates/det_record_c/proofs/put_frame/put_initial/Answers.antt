use Rattle.std.proofs.Common.{ap, subst}
use Rattle.record_grammar.specs.Spelling.{spelled_element, IsElement}
use Rattle.det_record_c.proofs.Putting.{puts_as}
use Rattle.det_record_c.proofs.put_frame.put_initial.Goals as goal

pub returns-clause-puts : goal.returns-clause-puts
returns-clause-puts c = puts_as _ _ _ _ _ _ (ap spelled_element c.used_bytes.ensures.bytes) c.put_element.ensures.puts

pub returns-clause-fields : goal.returns-clause-fields
returns-clause-fields c = subst IsElement c.used_bytes.ensures.bytes c.put_element.ensures.fields
