use Rattle.std.proofs.Common.{arith}
use Rattle.record_view.proofs.parts.view_refusal.Goals as goal

pub rest_of-requires : goal.rest_of-requires
rest_of-requires c = let h = c.requires.2 in (omega (arith, h.order, h.within))
