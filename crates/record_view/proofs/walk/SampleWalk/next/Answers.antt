use Rattle.std.proofs.Common.{sym, ◌∙◌, arith, rules}
use Rattle.record_view.proofs.Walked.{walk_none, walk_next, walk_goes_on}
use Rattle.record_view.proofs.walk.SampleWalk.next.Goals as goal

pub returns-then-self-eq0-clause-none : goal.returns-then-self-eq0-clause-none
returns-then-self-eq0-clause-none c =
    let none = sym c.self.view_is ∙ walk_none _ _ _ c.if-self-eq0.true in (none, none)

pub invariant_of-self : goal.invariant_of-self
invariant_of-self c = (walk_next _ _ _ _ _ (omega (arith, c.if-self-eq0.false)) c.in-Ok.ensures.gives c.self.invariant).0

pub returns-in-Ok-clause-some : goal.returns-in-Ok-clause-some
returns-in-Ok-clause-some c =
    let w = (walk_next _ _ _ _ _ (omega (arith, c.if-self-eq0.false)) c.in-Ok.ensures.gives c.self.invariant).1 in
    search (rules, w)

pub returns-in-Err-clause-none : goal.returns-in-Err-clause-none
returns-in-Err-clause-none c = absurd (walk_goes_on _ _ _ _ (omega (arith, c.if-self-eq0.false)) c.in-Err.ensures.gives c.self.invariant)
