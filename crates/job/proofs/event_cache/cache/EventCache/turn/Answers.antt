use Rattle.std.proofs.Common.{◌≡◌, map, List, length, arith, ap, ◌∙◌}
use Rattle.std.proofs.lemmas.List.{length-map}
use Rattle.job.specs.event_cache.Rings.{Rings, turned}
use Rattle.job.proofs.lemmas.event_cache.Rounds.{turned_whole, turned_fit, seen_turned, seen_next_windows}
use Rattle.job.proofs.event_cache.cache.EventCache.turn.Goals as goal

pub invariant_of-self : goal.invariant_of-self
invariant_of-self c =
    let e : c.loop-event.self-inside.rings.items
    ≡ map turned c.self.inside.rings.items = turned_whole _ _ c.loop-event.event (omega arith) c.loop-event.invariant in
    turned_fit c.self.inside.rings.items _ e c.self.invariant

pub returns-clause-turned : goal.returns-clause-turned
returns-clause-turned c = turned_whole _ _ c.loop-event.event (omega arith) c.loop-event.invariant ∙ ap (map turned) c.self.view_is

pub returns-clause-count : goal.returns-clause-count
returns-clause-count c =
    let e : c.loop-event.self-inside.rings.items
    ≡ map turned c.self.inside.rings.items = turned_whole _ _ c.loop-event.event (omega arith) c.loop-event.invariant in
    ap (λ (l : List Rings). length l) e ∙ length-map c.self.inside.rings.items turned ∙ ap (λ (l : List Rings). length l) c.self.view_is

pub returns-clause-next : goal.returns-clause-next
returns-clause-next c specs rounds arrived has_seen =
    seen_next_windows c.args.self.now _ specs rounds arrived (returns-clause-turned c) has_seen

pub returns-clause-seen : goal.returns-clause-seen
returns-clause-seen c specs rounds arrived has_seen = seen_turned c.args.self.now _ specs rounds arrived (returns-clause-turned c) has_seen
