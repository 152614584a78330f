use Rattle.record_grammar.proofs.lemmas.record_laws.Growing.{early_end}
use Rattle.record_grammar.proofs.lemmas.record_laws.Whole.{decoded_is}
use Rattle.record_grammar.proofs.record_laws.decoding.Goals as goal

pub returns-clause-all : goal.returns-clause-all
returns-clause-all c = decoded_is

pub returns-clause-early : goal.returns-clause-early
returns-clause-early c = early_end
