use Rattle.std.proofs.Common.{◌≡◌, length, take}
use Rattle.job.specs.event_cache.Rings.{windows}
use Rattle.job_shared.specs.Samples.{all_newest}
use Rattle.job_shared.proofs.samples.newest_samples.Given as goal

abbrev pub invariant-loop-event : goal.invariant-loop-event
invariant-loop-event l = record {
  so_far : l.samples ≡ all_newest (take l.event (windows l.cache));
  count : length l.samples ≡ l.event;
  end : l.event-end ≡ length l.cache;
}
