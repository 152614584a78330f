use Rattle.std.proofs.Common.{sym}
use Rattle.det_values.proofs.FlatReading.{holds}
use Rattle.det_values.proofs.drawn_block.DrawnBlock.from_spelled.Goals as goal

pub invariant_of-result : goal.invariant_of-result
invariant_of-result c = (holds c.requires.spelled.0 c.args.count c.args.bytes.items c.requires.spelled.1 (sym c.requires.spelled.2)
    c.requires.spelled.3 c.requires.few).flat

pub returns : goal.returns
returns c es spelling counted fields = (holds es c.args.count c.args.bytes.items spelling (sym counted) fields c.requires.few).view
