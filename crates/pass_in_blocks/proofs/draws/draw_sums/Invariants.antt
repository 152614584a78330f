use Rattle.std.proofs.Common.{◌≡◌, ◌*◌, take}
use Rattle.job.specs.Cycle.{added}
use Rattle.pass_in_blocks.proofs.draws.draw_sums.Given as goal

abbrev pub invariant-loop-b : goal.invariant-loop-b
invariant-loop-b l = l.draw_sums ≡ added (take (256 * l.b) l.left) (take (256 * l.b) l.right)
