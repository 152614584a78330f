use Rattle.std.proofs.Common.{◌≡◌, ◌+◌, ◌*◌, ◌++◌, length, drop}
use Rattle.std.specs.List.{flat_map}
use Rattle.job_shared.specs.Bytes.{u32_bytes}
use Rattle.jobs.proofs.guard.report.append_channel_numbers.Given as goal

abbrev pub invariant-loop-number : goal.invariant-loop-number
invariant-loop-number l = record {
  long : length l.bytes ≡ length l.fn.bytes + 4 * l.number-index;
  values : l.fn.bytes ++ flat_map u32_bytes l.numbers ≡ l.bytes ++ flat_map u32_bytes (drop l.number-index l.numbers);
}
