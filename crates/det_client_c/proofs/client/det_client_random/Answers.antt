use Rattle.det_client_c.proofs.client.det_client_random.Goals as goal

pub returns-clause-calls : goal.returns-clause-calls
returns-clause-calls c = λ t calls comes.
    c.from_client.ensures t _ (c.get_random-word.ensures.calls t calls (c.client-kept.ensures.comes t calls comes))
