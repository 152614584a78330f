use Rattle.std.proofs.Common.{rules}
use Rattle.copies.proofs.FirstDifference.{unequal-elements, equal-elements}
use Rattle.copies.proofs.frame_differences.difference_of_outcomes.Goals as goal

pub returns-then-ne : goal.returns-then-ne
returns-then-ne c = search (
  rules,
  unequal-elements c.args.cycle c.in-Finished.left_elements c.in-Finished-right.elements c.in-Finished.left_output
      c.in-Finished-right.output,
)

pub returns-then-ne-2 : goal.returns-then-ne-2
returns-then-ne-2 c = search (
  rules,
  equal-elements c.args.cycle c.in-Finished.left_elements c.in-Finished-right.elements c.in-Finished.left_output
      c.in-Finished-right.output,
)

pub returns-else-ne-2 : goal.returns-else-ne-2
returns-else-ne-2 c = search (
  rules,
  equal-elements c.args.cycle c.in-Finished.left_elements c.in-Finished-right.elements c.in-Finished.left_output
      c.in-Finished-right.output,
)
