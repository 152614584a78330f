use Rattle.std.proofs.Common.{◌≡◌, ◌≤◌, ◌-◌}
use Rattle.job.specs.Passes.{block_in}
use Rattle.pass_in_blocks.specs.BlockAnswers.{AreShown}
use Rattle.pass_in_blocks.specs.ShownElements.{shown_in}
use Rattle.worker_pool.specs.Results.{Works}
use Rattle.worker_pool.proofs.work.work_blocks.Given as goal

abbrev pub invariant-each : goal.invariant-each
invariant-each g l = record {
  table : l.seat.seat.table_id ≡ l.initial.seat.seat.table_id;
  id : l.seat.seat.id ≡ l.initial.seat.seat.id;
  works : Works (block_in g.J.Job.meaning l.pass) l.seat.seat.me.0 l.results;
  shown : AreShown (shown_in g.J.Job.meaning l.pass) l.results;
  inside : l.seat.seat.me.0.seen ≤ l.table.blocks;
  shares : l.seat.seat.me.0.shares ≡ l.initial.seat.seat.me.0.shares;
}

abbrev pub decreases-each : goal.decreases-each
decreases-each g l = l.table.blocks - l.seat.seat.me.0.seen
