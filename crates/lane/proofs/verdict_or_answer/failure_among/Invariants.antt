use Rattle.std.proofs.Common.{◌≡◌, drop}
use Rattle.std.specs.Prelude.{None}
use Rattle.lane.specs.VerdictOrAnswer.{known_statuses}
use Rattle.lane.proofs.Statuses.{joined}
use Rattle.lane.proofs.verdict_or_answer.failure_among.Given as goal

abbrev pub invariant-loop-child : goal.invariant-loop-child
invariant-loop-child l = joined l.first l.child (known_statuses (drop l.child l.statuses)) ≡ joined None 0 (known_statuses l.statuses)
