use Rattle.det_cli.proofs.OnWorkers.{same-on, same-record, same-chain}
use Rattle.det_cli.proofs.laws.worker_law.Goals as goal

pub returns-clause-command : goal.returns-clause-command
returns-clause-command c number command holds audience = same-on number command holds audience

pub returns-clause-manifest : goal.returns-clause-manifest
returns-clause-manifest c strict one other stimulus seed differ = same-record strict one other stimulus seed differ

pub returns-clause-pair : goal.returns-clause-pair
returns-clause-pair c strict first other second another stimulus seed differ differs =
    same-chain strict first other second another stimulus seed differ differs
