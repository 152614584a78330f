use Rattle.std.proofs.Common.{arith}
use Rattle.job.proofs.lemmas.event_cache.Rounds.{made_fit, made_count, made_windows, seen_nothing}
use Rattle.job.proofs.event_cache.cache.EventCache.new.Goals as goal

pub invariant_of-result : goal.invariant_of-result
invariant_of-result c =
    made_fit c.as_slice-spec-items.result.now _ c.loop-spec.spec-index c.as_slice-spec-items.ensures.most (omega arith)
    c.loop-spec.invariant

pub returns-clause-seen : goal.returns-clause-seen
returns-clause-seen c =
    rw (← c.as_slice-spec-items.ensures.items) (seen_nothing c.as_slice-spec-items.result.now _ c.loop-spec.spec-index (omega arith)
    c.loop-spec.invariant)

pub returns-clause-count : goal.returns-clause-count
returns-clause-count c =
    rw (← c.as_slice-spec-items.ensures.items) (made_count c.as_slice-spec-items.result.now _ c.loop-spec.spec-index (omega arith)
    c.loop-spec.invariant)

pub returns-clause-windows : goal.returns-clause-windows
returns-clause-windows c =
    rw (← c.as_slice-spec-items.ensures.items) (made_windows c.as_slice-spec-items.result.now _ c.loop-spec.spec-index (omega arith)
    c.loop-spec.invariant)
