use Rattle.std.proofs.Common.{◌≡◌, ◌≤◌, ◌-◌, length}
use Rattle.det_values.specs.Equal.{drawn_eq}
use Rattle.copies.specs.FirstDifference.{first_apart}
use Rattle.copies.proofs.item_differences.elements_apart.Given as goal

abbrev pub invariant-elements : goal.invariant-elements
invariant-elements l = record {
  apart : first_apart drawn_eq l.index l.left l.right ≡ first_apart drawn_eq 0 l.fn.left l.fn.right;
  left : length l.left ≤ l.most - l.index;
  right : length l.right ≤ l.most - l.index;
}
