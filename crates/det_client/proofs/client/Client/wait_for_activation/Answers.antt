use Rattle.det_client.proofs.RequestLists.{answered_step, life_step}
use Rattle.det_client.proofs.CallLists.{comes_waited}
use Rattle.det_client.proofs.client.Client.wait_for_activation.Goals as goal

pub returns-clause-answer : goal.returns-clause-answer
returns-clause-answer c = λ given life. answered_step c.step.ensures given life

pub returns-clause-life : goal.returns-clause-life
returns-clause-life c = λ given life. life_step c.step.ensures given life

pub returns-clause-calls : goal.returns-clause-calls
returns-clause-calls c = λ t calls comes. comes_waited calls comes c.step.ensures
