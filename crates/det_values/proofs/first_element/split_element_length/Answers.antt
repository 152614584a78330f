use Rattle.std.proofs.Common.{arith}
use Rattle.det_values.proofs.Fronts.{length_front}
use Rattle.det_values.proofs.first_element.split_element_length.Goals as goal

pub returns-in-len2-up-clause-some : goal.returns-in-len2-up-clause-some
returns-in-len2-up-clause-some c = length_front c.args.bytes.now c.from_be_bytes.result c.in-len2-up.len_at_least
    (λ i. omega (arith, c.type_inv.bytes i)) c.from_be_bytes.ensures
