use Rattle.std.proofs.Common.{arith}
use Rattle.det_values.proofs.Fronts.{draws_front}
use Rattle.det_values.proofs.first_element.split_element_draws.Goals as goal

pub returns-in-len4-up-clause-some : goal.returns-in-len4-up-clause-some
returns-in-len4-up-clause-some c = draws_front c.args.bytes.now c.from_be_bytes.result c.in-len4-up.len_at_least
    (λ i. omega (arith, c.type_inv.bytes i)) c.from_be_bytes.ensures
