use Rattle.std.proofs.Common.{arith}
use Rattle.stimulus.proofs.Following.{sample_follows}
use Rattle.stimulus.proofs.line_place.LinePlace.after.Goals as goal

pub returns-in-Sample : goal.returns-in-Sample
returns-in-Sample c =
    sample_follows c.args.self c.args.line.now c.in-Inside.blocks c.in-Inside.samples _ c.in-Inside.is c.in-Sample.is (omega arith)
