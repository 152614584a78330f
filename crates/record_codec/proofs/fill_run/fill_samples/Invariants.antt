use Rattle.std.proofs.Common.{◌≡◌, ◌+◌, length, ◌++◌}
use Rattle.record_codec.proofs.fill_run.fill_samples.Given as goal

abbrev pub invariant-samples : goal.invariant-samples
invariant-samples l = record {
  made : l.samples ++ l.walk ≡ l.fn.walk;
  counted : length l.samples + length l.walk ≡ length l.fn.walk;
}

abbrev pub decreases-samples : goal.decreases-samples
decreases-samples l = length l.walk
