use Rattle.std.proofs.Common.{◌≡◌, List, [], length, take}
use Rattle.det_values.specs.Values.{SampleValue, EventSpecValue}
use Rattle.job.specs.event_cache.Rings.{windows}
use Rattle.job.specs.event_cache.Windows.{HasSeen}
use Rattle.cycle_engine.proofs.engine.feed_samples.Given as goal

abbrev pub invariant-loop-sample : goal.invariant-loop-sample
invariant-loop-sample l = record {
  count : length l.cache ≡ length l.fn.cache;
  windows : windows l.cache ≡ windows l.fn.cache;
  seen : (events : List EventSpecValue) (rounds : List (List SampleValue))
      → HasSeen l.fn.cache events rounds [] → HasSeen l.cache events rounds (take l.sample-index l.samples);
}
