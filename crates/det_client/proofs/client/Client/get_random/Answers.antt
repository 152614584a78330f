use Rattle.std.proofs.Common.{rules}
use Rattle.det_client.proofs.CallLists.{comes_drawn}
use Rattle.det_client.proofs.client.Client.get_random.Goals as goal

pub returns-clause-calls : goal.returns-clause-calls
returns-clause-calls c = λ t calls comes. comes_drawn calls comes (search rules) (search rules) (search rules)
