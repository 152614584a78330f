use Rattle.cli_words.proofs.Moving.{option_position_law}
use Rattle.cli_words.proofs.laws.option_position_law.Goals as goal

pub returns : goal.returns
returns c = option_position_law
