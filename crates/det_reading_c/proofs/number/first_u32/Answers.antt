use Rattle.det_reading_c.proofs.Numbers.{first_four, none_there}
use Rattle.std.proofs.Common.{arith}
use Rattle.det_reading_c.proofs.number.first_u32.Goals as goal

pub returns-then-bytes-lt4 : goal.returns-then-bytes-lt4
returns-then-bytes-lt4 c = none_there 0 4 c.args.bytes.now (omega arith)

pub returns : goal.returns
returns c = first_four c.from_be_bytes.result c.args.bytes.now (omega arith) c.from_be_bytes.ensures
