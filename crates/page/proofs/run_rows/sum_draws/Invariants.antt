use Rattle.std.proofs.Common.{◌≡◌, ◌≤◌, ◌+◌, ◌*◌, length}
use Rattle.page.specs.Rows.{all_draws}
use Rattle.page.proofs.run_rows.sum_draws.Given as goal

abbrev pub invariant-elements : goal.invariant-elements
invariant-elements l = record {
  sum : l.sum + all_draws l.elements ≡ all_draws l.fn.elements;
  left : length l.elements + l.counter ≡ l.count;
  small : l.sum ≤ 4294967295 * l.counter;
}
