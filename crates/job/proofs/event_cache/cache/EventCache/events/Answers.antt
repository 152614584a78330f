use Rattle.std.proofs.Common.{rules, List, subst}
use Rattle.job.specs.event_cache.Rings.{Rings, windows}
use Rattle.job.specs.event_cache.Windows.{AreWindows}
use Rattle.job.proofs.lemmas.event_cache.Rounds.{are_windows}
use Rattle.job.proofs.event_cache.cache.EventCache.events.Goals as goal

pub returns-clause-windows : goal.returns-clause-windows
returns-clause-windows c =
    subst (λ (l : List Rings). AreWindows c.len.result (windows l)) c.self.view_is
    (are_windows c.self.inside.rings.items c.len.result (search rules) c.self.invariant.1)
