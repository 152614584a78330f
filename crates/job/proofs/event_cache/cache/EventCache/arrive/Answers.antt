use Rattle.std.proofs.Common.{rules}
use Rattle.job.proofs.lemmas.event_cache.Rounds.{joined_fit}
use Rattle.job.proofs.event_cache.cache.EventCache.arrive.Goals as goal

pub invariant_of-self : goal.invariant_of-self
invariant_of-self c =
    joined_fit c.self.inside.rings.items _ c.index_mut.result.now _ _ (search rules) c.index_mut.ensures.value c.arrive.ensures
    (search rules) c.self.invariant
