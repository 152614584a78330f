use Rattle.record_grammar.specs.Grammar.{name_byte_at}
use Rattle.record_view.proofs.Over.{Over}
use Rattle.record_view.proofs.header.skip_name_of.Given as goal

abbrev pub invariant-loop : goal.invariant-loop
invariant-loop l = Over name_byte_at l.len l.counter l.rest l.bytes
