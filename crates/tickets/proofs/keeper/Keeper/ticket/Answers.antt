use Rattle.std.proofs.Common.{rules}
use Rattle.tickets.proofs.Moves.{gives}
use Rattle.tickets.proofs.keeper.Keeper.ticket.Goals as goal

pub split_seat-seat-requires : goal.split_seat-seat-requires
split_seat-seat-requires g c = (search rules, search rules, gives _ _ c.self.invariant.2)
