use Rattle.record_grammar.proofs.lemmas.record_laws.Spelled.{spelled_is_read}
use Rattle.record_grammar.proofs.record_laws.spelled_is_read.Goals as goal

pub returns : goal.returns
returns c = spelled_is_read
