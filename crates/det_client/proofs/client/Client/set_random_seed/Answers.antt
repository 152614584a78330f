use Rattle.std.proofs.Common.{rules, refl}
use Rattle.det_client.proofs.CallLists.{comes_reseeded}
use Rattle.det_client.proofs.client.Client.set_random_seed.Goals as goal

pub returns-clause-calls : goal.returns-clause-calls
returns-clause-calls c = λ t calls comes. comes_reseeded calls comes _ (search rules) refl (search rules)
