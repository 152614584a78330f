use Rattle.cli_words.proofs.Canon.{canonical_words_law}
use Rattle.cli_words.proofs.laws.canonical_words_law.Goals as goal

pub returns : goal.returns
returns c = canonical_words_law
