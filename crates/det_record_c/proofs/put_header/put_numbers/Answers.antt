use Rattle.std.proofs.Common.{ap}
use Rattle.det_values.specs.Spelling.{spelled_u16}
use Rattle.det_record_c.proofs.Putting.{puts_then, puts_as}
use Rattle.det_record_c.proofs.put_header.put_numbers.Goals as goal

pub returns-clause-puts : goal.returns-clause-puts
returns-clause-puts c =
    puts_then _ _ _ _ _ _ _ _ c.put_magic-at.ensures
    (puts_then _ _ _ _ _ _ _ _ (puts_as _ _ _ _ _ _ (ap spelled_u16 c.version_number.ensures) c.put_u16-at.ensures)
    (puts_then _ _ _ _ _ _ _ _ c.put_u16-at-2.ensures (puts_then _ _ _ _ _ _ _ _ c.put_u64-at.ensures c.put_u64.ensures)))
