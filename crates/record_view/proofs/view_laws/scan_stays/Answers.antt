use Rattle.record_view.proofs.Growing.{scanned_grows}
use Rattle.record_view.proofs.view_laws.scan_stays.Goals as goal

pub returns : goal.returns
returns c = scanned_grows
