use Rattle.std.proofs.Common.{ap, sym, ◌∙◌}
use Rattle.det_client.specs.Life.{time_of}
use Rattle.det_client.specs.State.{next_time}
use Rattle.det_client.specs.Calls.{requests}
use Rattle.det_client_c.proofs.client.det_client_next_time.Goals as goal

pub returns-in-Ok-clause-known : goal.returns-in-Ok-clause-known
returns-in-Ok-clause-known c = λ taken t calls comes.
    let kept = c.client.ensures.comes t calls comes in
    ap (λ t. next_time t (time_of (requests calls))) (sym kept.cycle_time) ∙ c.in-Ok.ensures.life (requests calls) kept.life
