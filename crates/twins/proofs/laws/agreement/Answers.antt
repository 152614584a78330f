use Rattle.twins.proofs.Agreement.{agree-then, agree-where}
use Rattle.twins.proofs.laws.agreement.Goals as goal

pub returns : goal.returns
returns c = λ ours others long. (agree-then ours others long, agree-where ours others)
