use Rattle.det_reading_c.proofs.Numbers.{first_two, none_there}
use Rattle.std.proofs.Common.{arith}
use Rattle.det_reading_c.proofs.number.first_u16.Goals as goal

pub returns-then-bytes-lt2 : goal.returns-then-bytes-lt2
returns-then-bytes-lt2 c = none_there 0 2 c.args.bytes.now (omega arith)

pub returns : goal.returns
returns c = first_two c.from_be_bytes.result c.args.bytes.now (omega arith) c.from_be_bytes.ensures
