use Rattle.std.proofs.Common.{◌≡◌, ◌++◌, length, drop}
use Rattle.job.specs.Cycle.{added}
use Rattle.pass_in_blocks.proofs.draws.block_sums.Given as goal

abbrev pub invariant-loop-i : goal.invariant-loop-i
invariant-loop-i l = (length l.draw_sums.items ≡ l.i) × (added l.left l.right ≡ l.draw_sums.items
    ++ added (drop l.i l.left) (drop l.i l.right))
