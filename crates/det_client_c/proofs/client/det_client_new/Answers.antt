use Rattle.det_client_c.proofs.client.det_client_new.Goals as goal

pub returns-clause-made : goal.returns-clause-made
returns-clause-made c = λ taken. c.from_client.ensures _ _ c.new.ensures.calls
