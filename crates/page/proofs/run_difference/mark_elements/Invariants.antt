use Rattle.std.proofs.Common.{◌≡◌, ◌≤◌, ◌-◌, length}
use Rattle.page.specs.Differences.{marks_from, no_marks}
use Rattle.page.proofs.run_difference.mark_elements.Given as goal

abbrev pub invariant-elements : goal.invariant-elements
invariant-elements l = record {
  marks : marks_from l.per_mark l.number l.left l.right l.found ≡ marks_from l.per_mark 0 l.fn.left l.fn.right no_marks;
  left : length l.left ≤ l.most - l.number;
  right : length l.right ≤ l.most - l.number;
  counted : l.found.count ≤ l.number;
}
