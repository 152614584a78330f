use Rattle.std.proofs.Common.{arith}
use Rattle.record_view.proofs.parts.view_output.Goals as goal

pub rest_of-requires : goal.rest_of-requires
rest_of-requires c = let h = c.requires.5 in (omega (arith, h.counted, h.within))
