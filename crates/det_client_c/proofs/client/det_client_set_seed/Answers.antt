use Rattle.det_client_c.proofs.client.det_client_set_seed.Goals as goal

pub returns : goal.returns
returns c = λ t calls comes. c.from_client.ensures t _ (c.set_random_seed.ensures.calls t calls (c.client-kept.ensures.comes t calls comes))
