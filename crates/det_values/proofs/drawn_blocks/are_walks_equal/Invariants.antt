use Rattle.std.proofs.Common.{◌≡◌, length}
use Rattle.std.specs.Cmp.Lexicographic.{pointwise}
use Rattle.det_values.specs.Equal.{drawn_eq}
use Rattle.det_values.proofs.drawn_blocks.are_walks_equal.Given as goal

abbrev pub invariant-elements : goal.invariant-elements
invariant-elements l = pointwise drawn_eq l.left l.right ≡ pointwise drawn_eq l.fn.left l.fn.right

abbrev pub decreases-elements : goal.decreases-elements
decreases-elements l = length l.left
