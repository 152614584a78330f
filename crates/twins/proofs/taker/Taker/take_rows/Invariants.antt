use Rattle.std.proofs.Common.{◌≡◌, ◌+◌}
use Rattle.twins.specs.TakenRows.{Agreed}
use Rattle.twins.proofs.taker.Taker.take_rows.Given as goal

abbrev pub invariant-rounds : goal.invariant-rounds
invariant-rounds g l = record {
  agreed : Agreed l.queues l.self;
  rows : l.self.rows ≡ l.fn.self.rows + l.counter;
}
