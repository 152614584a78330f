use Rattle.std.proofs.Common.{◌∙◌}
use Rattle.frame_queue.proofs.Keeping.{drains, totals, popped}
use Rattle.frame_queue.proofs.rest.Rest.next.Goals as goal

pub pop_as-requires-clause-rule : goal.pop_as-requires-clause-rule
pop_as-requires-clause-rule g c = let h = c.self.invariant in (drains _ _ h.1 h.2, totals _ _ h.1 h.2)

pub invariant_of-self : goal.invariant_of-self
invariant_of-self g c =
    let h = c.self.invariant in
    let p = popped c.pop_as.result _ _ h.1 h.2 h.3 c.pop_as.ensures.rule in
    let q = c.pop_as.ensures.queue in
    ((q.0 ∙ h.0.0, q.2 ∙ h.0.1), p.0, p.1, p.2)

pub returns : goal.returns
returns g c =
    let h = c.self.invariant in
    let p = popped c.pop_as.result _ _ h.1 h.2 h.3 c.pop_as.ensures.rule in
    rw (← c.self.view_is) p.3
