use Rattle.std.proofs.Common.{subst}
use Rattle.det_client.specs.element_random.RandomStreams.{StandsFor}
use Rattle.det_client.specs.State.{own_place}
use Rattle.det_client.proofs.OwnStreams.{begun_is}
use Rattle.det_client.proofs.client.continue_own_stream.Goals as goal

pub returns-in-Some : goal.returns-in-Some
returns-in-Some c = λ k n s. subst (λ o. StandsFor (own_place o c.args.seed c.args.cycle) k n) c.in-Some.is s

pub returns-in-None : goal.returns-in-None
returns-in-None c = λ k n s.
    begun_is _ _ k n c.own_stream.ensures (subst (λ o. StandsFor (own_place o c.args.seed c.args.cycle) k n) c.in-None.is s)
