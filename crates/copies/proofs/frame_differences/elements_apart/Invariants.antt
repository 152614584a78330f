use Rattle.std.proofs.Common.{◌≡◌, nat_eq, drop}
use Rattle.std.specs.Cmp.Lexicographic.{pointwise}
use Rattle.copies.specs.FirstDifference.{first_apart}
use Rattle.copies.proofs.frame_differences.elements_apart.Given as goal

abbrev pub invariant-elements : goal.invariant-elements
invariant-elements l =
    first_apart (pointwise nat_eq) l.index (drop l.index l.left) (drop l.index l.right) ≡ first_apart (pointwise nat_eq) 0 l.left l.right
