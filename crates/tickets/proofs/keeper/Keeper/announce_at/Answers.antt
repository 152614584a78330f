use Rattle.std.proofs.Common.{rules}
use Rattle.tickets.proofs.Moves.{announces}
use Rattle.tickets.proofs.keeper.Keeper.announce_at.Goals as goal

pub load-requires : goal.load-requires
load-requires g c = (search rules, search rules, announces _ _ _ _ c.self.invariant.2)
