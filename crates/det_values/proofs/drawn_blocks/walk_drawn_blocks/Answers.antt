use Rattle.std.proofs.Common.{◌++◌, List, [], refl, ap}
use Rattle.det_values.specs.Blocks.{joined}
use Rattle.det_values.specs.declared.frames.DrawnElement.{DrawnElement}
use Rattle.det_values.proofs.FlatReading.{nothing_holds}
use Rattle.det_values.proofs.drawn_blocks.walk_drawn_blocks.Goals as goal

pub invariant_of-result : goal.invariant_of-result
invariant_of-result c = (nothing_holds [] refl).flat

pub returns : goal.returns
returns c = ap (λ (es : List DrawnElement). es ++ joined c.args.blocks.now) (nothing_holds [] refl).view
