use Rattle.copies.proofs.Equality.{item_decides}
use Rattle.copies.proofs.laws.equality.Goals as goal

pub returns : goal.returns
returns c = item_decides
