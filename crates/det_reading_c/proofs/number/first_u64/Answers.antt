use Rattle.det_reading_c.proofs.Numbers.{first_eight, none_there}
use Rattle.std.proofs.Common.{arith}
use Rattle.det_reading_c.proofs.number.first_u64.Goals as goal

pub returns-then-bytes-lt8 : goal.returns-then-bytes-lt8
returns-then-bytes-lt8 c = none_there 0 8 c.args.bytes.now (omega arith)

pub returns : goal.returns
returns c = first_eight c.from_be_bytes.result c.args.bytes.now (omega arith) c.from_be_bytes.ensures
