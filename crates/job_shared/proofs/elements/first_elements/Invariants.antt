use Rattle.std.proofs.Common.{◌≡◌}
use Rattle.job_shared.proofs.Made.{IsMade}
use Rattle.job_shared.proofs.elements.first_elements.Given as goal

abbrev pub invariant-loop-number : goal.invariant-loop-number
invariant-loop-number g l = record {
  so_far : IsMade (g.E.FirstElement.first l.job) l.number l.elements;
}
