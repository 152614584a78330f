use Rattle.std.proofs.Common.{arith}
use Rattle.job.specs.event_cache.Rings.{windows}
use Rattle.job_shared.proofs.Windows.{samples_whole}
use Rattle.job_shared.proofs.samples.newest_samples.Goals as goal

pub returns-clause-limits : goal.returns-clause-limits
returns-clause-limits c events many =
    samples_whole c.events-event-end.result c.loop-event.event events (windows c.args.cache.now) c.loop-event.samples
    c.events-event-end.ensures.windows (omega arith) many c.loop-event.invariant.so_far
