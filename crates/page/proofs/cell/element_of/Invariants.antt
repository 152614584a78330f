use Rattle.std.proofs.Common.{◌≡◌, ◌≤◌, ◌-◌}
use Rattle.std.specs.List.{slice_get}
use Rattle.page.proofs.cell.element_of.Given as goal

abbrev pub invariant-elements : goal.invariant-elements
invariant-elements l = record {
  same : slice_get l.elements (l.number - l.counter) ≡ slice_get l.fn.elements l.number;
  within : l.counter ≤ l.number;
}
