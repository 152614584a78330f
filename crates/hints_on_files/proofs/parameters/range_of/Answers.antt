use Rattle.std.proofs.Common.{rules}
use Rattle.hints_on_files.proofs.parameters.range_of.Goals as goal

pub returns-in-Bank : goal.returns-in-Bank
returns-in-Bank c = λ events refused. c.bank.ensures c.args.params.now events (rw c.in-Bank.is at refused)

pub returns-in-Cloud : goal.returns-in-Cloud
returns-in-Cloud c = λ events refused. c.cloud.ensures c.args.params.now events (rw c.in-Cloud.is at refused)

pub returns-in-Guard : goal.returns-in-Guard
returns-in-Guard c = λ events refused. c.guard.ensures c.args.params.now events (search rules) (rw c.in-Guard.is at refused)
