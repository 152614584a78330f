use Rattle.cli_answers.proofs.AnswerMeets.{ends-by}
use Rattle.lane.proofs.lane_program.lane_top.Goals as goal

pub returns : goal.returns
returns g c =
    ends-by c.run_command-answer.result c.status.ensures c.run_command-answer.ensures c.line.ensures c.write_line.ensures
