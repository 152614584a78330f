use Rattle.cmd_run.proofs.lemmas.chain.Linking.{both-counted}
use Rattle.cmd_run.proofs.chain.both_clients.close_chain.Goals as goal

pub returns-clause-counted : goal.returns-clause-counted
returns-clause-counted g c given h =
    both-counted _ _ _ _ given c.in_ok-one.one c.in_ok-other.other _ _ (c.in_ok-one.ensures.closed _ h.first)
    (c.in_ok-other.ensures.closed _ h.second)
