use Rattle.std.proofs.Common.{◌≤◌}
use Rattle.twins.specs.TwinQueues.{HaveSent}
use Rattle.twins.specs.Sides.{twins_of}
use Rattle.twins.specs.TakenRows.{Agreed}
use Rattle.twins.proofs.exchange.exchange_all.Given as goal

abbrev pub invariant-turns : goal.invariant-turns
invariant-turns g l = record {
  sends : HaveSent g.J.Job.meaning l.run.profile l.run.inputs (g.T.Tamper.altered l.run.tamper) l.queues (twins_of l.fn.sides)
      (twins_of l.sides);
  agreed : Agreed l.queues l.sides.taker;
  within : l.sides.taker.rows ≤ l.rows;
}
