use Rattle.std.proofs.Common.{◌≡◌}
use Rattle.worker_pool.specs.Messages.{HasFound}
use Rattle.worker_pool.proofs.links.collect_replies.Given as goal

abbrev pub invariant-look : goal.invariant-look
invariant-look g l = (l.keeper ≡ l.initial.keeper) × HasFound g.J.Job.meaning l.task l.seat l.found.items
