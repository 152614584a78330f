use Rattle.record_grammar.proofs.lemmas.record_laws.Growing.{items_grow, after_fault}
use Rattle.record_grammar.proofs.record_laws.more_bytes.Goals as goal

pub returns-clause-items : goal.returns-clause-items
returns-clause-items c = items_grow

pub returns-clause-fault : goal.returns-clause-fault
returns-clause-fault c = after_fault
