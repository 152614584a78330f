use Rattle.std.proofs.Common.{◌≤◌, ◌<◌, length}
use Rattle.worker_pool.proofs.crew.Crew.start_threads.Given as goal

abbrev pub invariant-start : goal.invariant-start
invariant-start g l = (length l.links.items < l.worker) × (l.worker ≤ l.workers)
