use Rattle.std.proofs.Common.{ap, ◌∙◌}
use Rattle.rand_xoshiro.specs.Xoshiro256.{of_seed}
use Rattle.det_client.proofs.lemmas.element_random.States.{the_state}
use Rattle.det_client.proofs.element_random.generator_in_state.Goals as goal

pub returns : goal.returns
returns c =
    c.from_seed.ensures ∙ ap of_seed c.state_bytes.ensures
    ∙ the_state _ _ _ _ c.ranges.first.fits c.ranges.second.fits c.ranges.third.fits c.ranges.last.fits
