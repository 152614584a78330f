use Rattle.record_grammar.specs.Grammar.{event_at}
use Rattle.record_view.proofs.Over.{Over}
use Rattle.record_view.proofs.header.skip_all_events.Given as goal

abbrev pub invariant-loop : goal.invariant-loop
invariant-loop l = Over (event_at l.format) l.count l.counter l.rest l.bytes
