use Rattle.std.proofs.Common.{◌≤◌, ◌+◌, length}
use Rattle.page.specs.Walks.{runs_left}
use Rattle.page.specs.Differences.{difference_of, differences_of, pairwise}
use Rattle.page.proofs.Fills.{Fill}
use Rattle.page.proofs.run_difference.put_differences.Given as goal

abbrev pub invariant-cycles : goal.invariant-cycles
invariant-cycles l = record {
  fill : Fill (differences_of l.per_mark l.first l.other)
      (pairwise (difference_of l.per_mark) (runs_left l.left) (runs_left l.right)) l.rows l.fn.rows l.count;
  room : l.count + length l.left.rest.now ≤ length l.first;
}

abbrev pub decreases-cycles : goal.decreases-cycles
decreases-cycles l = length l.left.rest.now
