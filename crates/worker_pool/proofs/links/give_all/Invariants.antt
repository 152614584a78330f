use Rattle.std.proofs.Common.{◌≡◌, ◌≤◌, ◌+◌}
use Rattle.worker_pool.specs.Views.{IsNew}
use Rattle.worker_pool.proofs.links.give_all.Given as goal

abbrev pub invariant-each : goal.invariant-each
invariant-each g l = record {
  keeper : l.keeper ≡ l.initial.keeper;
  table : l.seat.seat.table_id ≡ l.initial.seat.seat.table_id;
  id : l.seat.seat.id ≡ l.initial.seat.seat.id;
  new : IsNew l.seat.seat.me.0;
  worker : l.worker ≡ l.link-index + 1;
  given : l.given ≤ l.link-index;
  shares : 65 ≤ l.seat.seat.me.0.shares + l.worker;
}
