use Rattle.std.proofs.Common.{length}
use Rattle.twins.specs.ClosedQueues.{AreSenders}
use Rattle.twins.specs.TakenRows.{AreIntakes}
use Rattle.twins.proofs.Closed.{HaveClosed}
use Rattle.twins.proofs.close_queues.close_all.Given as goal

abbrev pub invariant-copies : goal.invariant-copies
invariant-copies g l = record {
  senders : AreSenders l.queues.items l.twins.items;
  intakes : AreIntakes l.queues.items l.intakes.items;
  closed : HaveClosed l.intakes.items l.fn.intakes.items l.twins.items l.fn.twins.items;
}

abbrev pub decreases-copies : goal.decreases-copies
decreases-copies g l = length l.queues.items
