use Rattle.cli_answers.proofs.Keeping.{keeps-stay, keeps-read}
use Rattle.twin_cli.proofs.inputs.read_text.Goals as goal

pub returns-in_err-slot-clause-earlier : goal.returns-in_err-slot-clause-earlier
returns-in_err-slot-clause-earlier g c = keeps-stay c.in_err-slot.ensures.slots

pub returns-in_err-text-clause-earlier : goal.returns-in_err-text-clause-earlier
returns-in_err-text-clause-earlier g c = keeps-read c.in_ok-slot.ensures.opens c.in_err-text.ensures.piece.1

pub returns-clause-earlier : goal.returns-clause-earlier
returns-clause-earlier g c = keeps-read c.in_ok-slot.ensures.opens c.in_ok-text.ensures.piece.1
