use Rattle.std.proofs.Common.{sym}
use Rattle.shipped_crews.proofs.fresh_run.FreshRun.visit_before.Goals as goal

pub returns : goal.returns
returns g c = rw (sym c.in_ok-first.ensures.recording) c.visit_second-answer.ensures
