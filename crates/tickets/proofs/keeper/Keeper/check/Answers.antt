use Rattle.std.proofs.Common.{rules, ap, ◌∙◌}
use Rattle.tickets.proofs.Moves.{takes_in, checks}
use Rattle.tickets.proofs.keeper.Keeper.check.Goals as goal

pub join_seat-requires : goal.join_seat-requires
join_seat-requires g c = (search rules, search rules, search rules, search rules, takes_in _ _ _ _ c.self.invariant.2)

pub load-requires : goal.load-requires
load-requires g c = (search rules, search rules, checks _ _ _ (ap (λ m. m.0.keeps) c.join_seat.ensures.2 ∙ c.self.invariant.2))
