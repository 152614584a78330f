use Rattle.record_view.proofs.Cutting.{cut_shows as law}
use Rattle.record_view.proofs.view_laws.cut_shows.Goals as goal

pub returns : goal.returns
returns c = law
