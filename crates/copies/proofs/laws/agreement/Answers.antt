use Rattle.copies.proofs.Agreeing.{agrees, agreed}
use Rattle.copies.proofs.laws.agreement.Goals as goal

pub returns : goal.returns
returns c first others cycles bytes = (agrees first others cycles bytes, agreed first others cycles)
