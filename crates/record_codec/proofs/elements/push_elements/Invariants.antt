use Rattle.std.proofs.Common.{◌≡◌, ◌+◌, ◌≤◌, length, ◌++◌}
use Rattle.record_codec.proofs.elements.push_elements.Given as goal

abbrev pub invariant-elements : goal.invariant-elements
invariant-elements l = record {
  made : l.elements ++ l.walk ≡ l.fn.elements ++ l.fn.walk;
  counted : length l.elements + length l.walk ≤ 65536;
}

abbrev pub decreases-elements : goal.decreases-elements
decreases-elements l = length l.walk
