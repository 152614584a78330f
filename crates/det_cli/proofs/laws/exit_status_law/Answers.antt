use Rattle.det_cli.proofs.Concluding.{concludes}
use Rattle.det_cli.proofs.laws.exit_status_law.Goals as goal

pub returns : goal.returns
returns g c words first last out out_after err err_after seeing stayed status promised =
    concludes words first last _ _ seeing stayed status promised
