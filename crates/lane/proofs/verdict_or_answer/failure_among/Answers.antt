use Rattle.std.proofs.Common.{ap, ◌∙◌, not}
use Rattle.lane.proofs.Statuses.{joined-walk}
use Rattle.lane.proofs.verdict_or_answer.failure_among.Goals as goal

pub loop-child-preserved : goal.loop-child-preserved
loop-child-preserved c =
    joined-walk c.args.statuses.now c.loop-child.first c.or-first.result c.failure_of.result c.loop-child.child c.loop-child-test.true
    (c.is_none.ensures ∙ ap not c.if-is_none.false) c.failure_of.ensures c.or-first.ensures c.loop-child.invariant
