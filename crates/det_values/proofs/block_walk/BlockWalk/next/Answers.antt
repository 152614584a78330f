use Rattle.std.proofs.Common.{arith}
use Rattle.det_values.proofs.Walking.{walk_ended, walk_next, walk_goes_on}
use Rattle.det_values.proofs.block_walk.BlockWalk.next.Goals as goal

pub returns-then-self-eq0-clause-none : goal.returns-then-self-eq0-clause-none
returns-then-self-eq0-clause-none c = walk_ended _ _ _ c.self.view_is c.if-self-eq0.true

pub returns-then-self-eq0-clause-ended : goal.returns-then-self-eq0-clause-ended
returns-then-self-eq0-clause-ended c = walk_ended _ _ _ c.self.view_is c.if-self-eq0.true

pub invariant_of-self : goal.invariant_of-self
invariant_of-self c = (walk_next _ _ _ _ _ c.self.view_is c.self.invariant (omega (arith, c.if-self-eq0.false)) c.in-Some.ensures.some).flat

pub returns-in-Some-clause-some : goal.returns-in-Some-clause-some
returns-in-Some-clause-some c = (walk_next _ _ _ _ _ c.self.view_is c.self.invariant (omega (arith, c.if-self-eq0.false))
    c.in-Some.ensures.some).parts

pub returns-in-None-clause-none : goal.returns-in-None-clause-none
returns-in-None-clause-none c = absurd (walk_goes_on _ _ c.self.invariant (omega (arith, c.if-self-eq0.false)) c.in-None.ensures.none)

pub returns-in-None-clause-ended : goal.returns-in-None-clause-ended
returns-in-None-clause-ended c = absurd (walk_goes_on _ _ c.self.invariant (omega (arith, c.if-self-eq0.false)) c.in-None.ensures.none)

pub returns-in-Some-clause-short : goal.returns-in-Some-clause-short
returns-in-Some-clause-short c = c.in-Some.ensures.some.fields.short
