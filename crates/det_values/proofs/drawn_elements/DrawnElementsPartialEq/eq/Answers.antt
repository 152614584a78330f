use Rattle.std.proofs.Common.{◌∙◌, sym, ap}
use Rattle.det_values.specs.Blocks.{joined}
use Rattle.det_values.proofs.Same.{blocks_equal}
use Rattle.det_values.proofs.drawn_elements.DrawnElementsPartialEq.eq.Goals as goal

pub returns-then-eq : goal.returns-then-eq
returns-then-eq c =
    blocks_equal c.as_slice.result.now c.as_slice-2.result.now _ _ (ap joined c.as_slice.ensures.value ∙ c.self.view_is)
    (ap joined c.as_slice-2.ensures.value ∙ c.other.view_is) (sym c.eq.ensures ∙ c.if-eq.true)
