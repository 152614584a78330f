use Rattle.std.proofs.Common.{◌≡◌, length}
use Rattle.twins.proofs.InTurn.{Round}
use Rattle.twins.proofs.rounds.take_round.Given as goal

abbrev pub invariant-others : goal.invariant-others
invariant-others g l = record {
  round : Round l.copy l.number l.queues l.fn.intakes l.intakes l.ours l.found;
  end : l.copy-end ≡ length l.fn.intakes;
}
