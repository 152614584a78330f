use Rattle.std.proofs.Common.{◌≡◌, ◌++◌, length}
use Rattle.det_values.specs.Blocks.{joined}
use Rattle.det_values.proofs.walk.Walk.next.Given as goal

abbrev pub invariant-next : goal.invariant-next
invariant-next l = l.self-inside.here ++ joined l.self-inside.behind.now ≡ l.fn.self

abbrev pub decreases-next : goal.decreases-next
decreases-next l = length l.self-inside.behind.now
