use Rattle.std.proofs.Common.{◌∙◌}
use Rattle.cli_answers.proofs.AnswerMeets.{meets-no-memory}
use Rattle.cmd_run.proofs.lemmas.sim_command.Simulated.{meets-done, meets-failed}
use Rattle.cmd_run.proofs.sim_command.sim_lines.sim.Goals as goal

pub returns-in_default-clause-meets : goal.returns-in_default-clause-meets
returns-in_default-clause-meets g c = meets-no-memory _ _ _ _ _ _

pub returns-in-Ok-write_all-clause-meets : goal.returns-in-Ok-write_all-clause-meets
returns-in-Ok-write_all-clause-meets g c =
    meets-done _ c.args.number _ c.deref.result.now (c.deref.ensures.value ∙ c.in-Ok.ensures.text) c.in-Ok-write_all.ensures.all

pub returns-clause-meets : goal.returns-clause-meets
returns-clause-meets g c =
    meets-failed _ c.args.number _ c.deref.result.now (c.deref.ensures.value ∙ c.in-Ok.ensures.text) c.write_all.ensures.part
    c.in-Err.ensures.cause
