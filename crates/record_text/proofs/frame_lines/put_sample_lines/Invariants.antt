use Rattle.std.proofs.Common.{◌≡◌, ◌++◌, length}
use Rattle.std.specs.List.{flat_map}
use Rattle.record_text.specs.Records.{sample_line}
use Rattle.record_text.proofs.frame_lines.put_sample_lines.Given as goal

abbrev pub invariant-samples : goal.invariant-samples
invariant-samples l = l.out.items ++ flat_map sample_line l.samples ≡ l.fn.out.items ++ flat_map sample_line l.fn.samples

abbrev pub decreases-samples : goal.decreases-samples
decreases-samples l = length l.samples
