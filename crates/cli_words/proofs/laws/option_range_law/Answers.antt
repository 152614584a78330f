use Rattle.cli_words.proofs.Ranging.{in_range}
use Rattle.cli_words.proofs.laws.option_range_law.Goals as goal

pub returns : goal.returns
returns c = in_range
