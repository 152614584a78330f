use Rattle.std.proofs.Common.{◌≡◌, map, take}
use Rattle.job.proofs.lemmas.event_cache.Rounds.{empty}
use Rattle.job.proofs.event_cache.cache.EventCache.new.Given as goal

abbrev pub invariant-loop-spec : goal.invariant-loop-spec
invariant-loop-spec l = l.rings.items ≡ map empty (take l.spec-index l.spec-items)
