use Rattle.std.proofs.Common.{ℕ, ap, ◌∙◌}
use Rattle.rand_xoshiro.specs.SplitMix64.{mix_u64}
use Rattle.det_client.specs.element_random.RandomStreams.{splitmix_output}
use Rattle.det_client.proofs.element_random.mix.Goals as goal

pub returns : goal.returns
unfolding splitmix_output
returns c = ap (λ (p : ℕ × ℕ). p.0) c.next_word.ensures ∙ ap (λ x. (mix_u64 x).0) c.seed_from_u64.ensures.same
