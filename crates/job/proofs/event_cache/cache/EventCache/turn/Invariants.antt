use Rattle.std.proofs.Common.{◌≡◌, ◌++◌, map, take, drop}
use Rattle.job.specs.event_cache.Rings.{turned}
use Rattle.job.proofs.event_cache.cache.EventCache.turn.Given as goal

abbrev pub invariant-loop-event : goal.invariant-loop-event
invariant-loop-event l =
    l.self-inside.rings.items ≡ map turned (take l.event l.initial.self-inside.rings.items)
    ++ drop l.event l.initial.self-inside.rings.items
