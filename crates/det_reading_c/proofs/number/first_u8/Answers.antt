use Rattle.det_reading_c.proofs.Numbers.{first_byte, none_there}
use Rattle.std.proofs.Common.{arith}
use Rattle.det_reading_c.proofs.number.first_u8.Goals as goal

pub returns-then-is_empty : goal.returns-then-is_empty
returns-then-is_empty c = none_there 0 1 c.args.bytes.now (grind arith)

pub returns : goal.returns
returns c = first_byte c.args.bytes.now
