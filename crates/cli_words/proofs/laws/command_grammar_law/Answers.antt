use Rattle.cli_words.proofs.Canon.{command_grammar_law}
use Rattle.cli_words.proofs.laws.command_grammar_law.Goals as goal

pub returns : goal.returns
returns c = command_grammar_law
