use Rattle.std.proofs.Common.{◌≡◌}
use Rattle.worker_pool.specs.Messages.{HasFound}
use Rattle.worker_pool.proofs.links.take_replies.Given as goal

abbrev pub invariant-each : goal.invariant-each
invariant-each g l = (l.keeper ≡ l.initial.keeper) × HasFound g.J.Job.meaning l.task l.seat l.found.items
