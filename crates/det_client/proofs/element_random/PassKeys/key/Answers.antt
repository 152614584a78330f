use Rattle.std.proofs.Common.{◌+◌, ◌*◌, ◌^◌, ◌∙◌}
use lib.Bits.{bit_xor}
use Rattle.det_client.specs.element_random.RandomStreams.{splitmix_output, key}
use Rattle.det_client.proofs.element_random.PassKeys.key.Goals as goal

pub returns : goal.returns
unfolding key
returns c = λ seed cycle pass keys.
    c.mix.ensures
    ∙ (λ i. splitmix_output (bit_xor (keys.shared i) (c.from.ensures i * 2 ^ 32 + c.from-2.ensures i)))
    ∙ (λ i. splitmix_output (bit_xor (splitmix_output (bit_xor (splitmix_output seed) cycle)) (keys.of_pass i * 2 ^ 32 + c.args.element)))
