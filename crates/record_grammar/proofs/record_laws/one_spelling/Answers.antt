use Rattle.record_grammar.proofs.lemmas.record_laws.OneSpelling.{one_spelling}
use Rattle.record_grammar.proofs.lemmas.record_laws.Spelled.{one_record}
use Rattle.record_grammar.proofs.record_laws.one_spelling.Goals as goal

pub returns-clause-item : goal.returns-clause-item
returns-clause-item c = one_spelling

pub returns-clause-whole : goal.returns-clause-whole
returns-clause-whole c = one_record
