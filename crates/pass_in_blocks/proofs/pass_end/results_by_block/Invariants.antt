use Rattle.std.proofs.Common.{◌≤◌, length, vec_len}
use Rattle.job.specs.Passes.{block_in, blocks_in}
use Rattle.pass_in_blocks.specs.BlockAnswers.{AreRight, AreShown}
use Rattle.pass_in_blocks.specs.ShownElements.{shown_in}
use Rattle.pass_in_blocks.specs.Steps.{ArePlaces}
use Rattle.pass_in_blocks.proofs.pass_end.results_by_block.Given as goal

abbrev pub invariant-place : goal.invariant-place
invariant-place g l = record {
  sized : blocks_in l.pass ≤ length l.places.items;
  places : ArePlaces (block_in g.J.Job.meaning l.pass) (shown_in g.J.Job.meaning l.pass) l.places.items;
  right : AreRight (block_in g.J.Job.meaning l.pass) (blocks_in l.pass) l.results.items;
  shown : AreShown (shown_in g.J.Job.meaning l.pass) l.results.items;
}

abbrev pub decreases-place : goal.decreases-place
decreases-place g l = vec_len l.results
