use Rattle.record_grammar.proofs.lemmas.record_laws.Order.{in_order}
use Rattle.record_grammar.proofs.record_laws.in_order.Goals as goal

pub returns : goal.returns
returns c = in_order
