use Rattle.std.proofs.Common.{◌∙◌}
use Rattle.det_values.proofs.Same.{bytes_decide}
use Rattle.det_values.proofs.drawn_block.DrawnBlockPartialEq.eq.Goals as goal

pub returns : goal.returns
returns c = c.eq.ensures ∙ rw (c.as_slice-left.ensures.value, c.as_slice-right.ensures.value)
    (bytes_decide _ _ _ _ _ _ c.self.view_is c.self.invariant c.other.view_is c.other.invariant)
