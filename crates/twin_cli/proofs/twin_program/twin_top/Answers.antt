use Rattle.cli_answers.proofs.AnswerMeets.{ends-by}
use Rattle.twin_cli.proofs.twin_program.twin_top.Goals as goal

pub returns : goal.returns
returns g c = ends-by c.run-answer.result c.status.ensures c.run-answer.ensures c.line.ensures c.write_line.ensures
