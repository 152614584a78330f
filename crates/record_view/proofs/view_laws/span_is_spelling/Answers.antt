use Rattle.record_view.proofs.EqualItems.{span_is_spelling as law}
use Rattle.record_view.proofs.view_laws.span_is_spelling.Goals as goal

pub returns : goal.returns
returns c = law
