use Rattle.std.proofs.Common.{◌≡◌, ◌≤◌, ◌-◌, length}
use Rattle.std.specs.Cmp.Lexicographic.{pointwise}
use Rattle.det_values.specs.contracts.sample.SamplePartialEq.TheImpl as sample
use Rattle.page.proofs.run_difference.are_same_samples.Given as goal

abbrev pub invariant-samples : goal.invariant-samples
invariant-samples l = record {
  same : pointwise sample.eq-value.it l.left l.right ≡ pointwise sample.eq-value.it l.fn.left l.fn.right;
  left : length l.left ≤ l.most - l.counter;
  right : length l.right ≤ l.most - l.counter;
}
