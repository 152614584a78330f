use Rattle.cli_words.proofs.Decimals.{number_of-spelled, number_of-is}
use Rattle.cli_words.proofs.laws.word_spelling_law.Goals as goal

pub returns-clause-spelling : goal.returns-clause-spelling
returns-clause-spelling c = λ word n small. ((λ e. (number_of-is word n e).1), λ e. number_of-spelled word n small e)

pub returns-clause-limit : goal.returns-clause-limit
returns-clause-limit c = λ word n e. (number_of-is word n e).0
