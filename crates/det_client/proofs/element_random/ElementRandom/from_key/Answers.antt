use Rattle.std.proofs.Common.{arith, ◌∙◌}
use Rattle.det_client.proofs.lemmas.element_random.Seeds.{seeded}
use Rattle.det_client.specs.element_random.RandomStreams.{state_at}
use Rattle.det_client.proofs.element_random.ElementRandom.from_key.Goals as goal

pub returns : goal.returns
unfolding state_at
returns c = record { state = c.seed_from_u64.ensures ∙ seeded c.args.key; draws = omega arith }
