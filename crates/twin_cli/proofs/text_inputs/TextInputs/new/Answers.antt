use Rattle.twin_cli.proofs.Sourcing.{behind-none}
use Rattle.twin_cli.proofs.text_inputs.TextInputs.new.Goals as goal

pub returns : goal.returns
returns c = behind-none c.args.text c.args.events _ c.new.ensures c.from_slot.ensures.stands c.from_slot.ensures.events
