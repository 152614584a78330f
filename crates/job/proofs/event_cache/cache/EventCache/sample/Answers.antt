use Rattle.std.proofs.Common.{arith, rules, ◌<◌, ◌≡◌, length, [], ap, get_or, List, ℤ}
use Rattle.std.proofs.lemmas.Int.{to_z-of_z}
use Rattle.det_values.specs.Limits.{IsSampleValue}
use Rattle.job.specs.event_cache.Rings.{Rings, windows}
use Rattle.job.proofs.lemmas.event_cache.Rounds.{value_in_limits, window_is}
use Rattle.job.proofs.event_cache.cache.EventCache.sample.Goals as goal

pub returns-clause-limits : goal.returns-clause-limits
returns-clause-limits c =
    let at : c.index.result.now ≡ get_or c.self.inside.rings.items c.args.event c.index.result.now = cc in
    let window : get_or (windows c.self.inside.rings.items) c.args.event []
    ≡ c.index.result.now.seen = window_is c.self.inside.rings.items c.args.event c.index.result.now (search rules) at in
    let inside : c.args.index < length c.index.result.now.seen = omega (
      arith,
      ap (λ (l : List ℤ). length l) window,
      ap (λ (l : List Rings). length (get_or (windows l) c.args.event [])) c.self.view_is,
      c.requires.index,
    ) in
    let good : IsSampleValue c.value.result = value_in_limits c.self.inside.rings.items c.args.event c.args.index c.index.result.now
    c.value.result (search rules) at inside c.value.ensures c.self.invariant.1 in
    grind (arith, to_z-of_z)
