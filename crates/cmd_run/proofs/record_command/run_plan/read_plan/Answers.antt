use Rattle.std.proofs.lemmas.Result.{err_from_is_err_and}
use Rattle.cmd_run.proofs.record_command.run_plan.read_plan.Goals as goal

pub returns-in_err-setup-clause-unplanned : goal.returns-in_err-setup-clause-unplanned
returns-in_err-setup-clause-unplanned g c =
    let p = err_from_is_err_and c.from_residual.result c.from_residual.ensures.1 in
    rw (p.1, p.2) (record {
      refused = c.in_err-setup.ensures.refused;
      cause = c.in_err-setup.ensures.traffic.cause;
      writes_nothing = c.in_err-setup.ensures.writes_nothing;
    })

pub returns-clause-planned : goal.returns-clause-planned
returns-clause-planned g c = record {
  manifest = c.in_ok-setup.setup;
  is = c.in_ok-setup.ensures.manifest;
  same_kind = c.in_ok-plan.ensures.kind;
  same_profile = c.in_ok-plan.ensures.profile;
  workers = c.in_ok-plan.ensures.workers;
}
