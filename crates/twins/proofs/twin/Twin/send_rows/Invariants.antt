use Rattle.std.proofs.Common.{◌≡◌}
use Rattle.twins.specs.TwinFrames.{IsTwin}
use Rattle.twins.proofs.twin.Twin.send_rows.Given as goal

abbrev pub invariant-rows : goal.invariant-rows
invariant-rows g l = record {
  twin : IsTwin g.J.Job.meaning l.run.profile l.run.inputs (g.T.Tamper.altered l.run.tamper) l.queue l.self;
  copy : l.self.copy ≡ l.fn.self.copy;
}
