use Rattle.std.proofs.Common.{◌≡◌, ◌≤◌, ◌-◌, length}
use Rattle.det_values.specs.Equal.{drawn_eq}
use Rattle.copies.specs.FirstDifference.{first_apart}
use Rattle.copies.proofs.frame_differences.drawn_difference.Given as goal

abbrev pub invariant-elements : goal.invariant-elements
invariant-elements l = record {
  apart : first_apart drawn_eq l.index l.left_walk l.right_walk ≡ first_apart drawn_eq 0 l.left l.right;
  left : length l.left_walk ≤ l.most - l.index;
  right : length l.right_walk ≤ l.most - l.index;
}
