use Rattle.record_view.proofs.EqualItems.{equal_items as law}
use Rattle.record_view.proofs.view_laws.equal_items.Goals as goal

pub returns : goal.returns
returns c = law
