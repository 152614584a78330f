use Rattle.record_grammar.specs.Grammar.{signed_at}
use Rattle.record_view.proofs.Over.{Over}
use Rattle.record_view.proofs.header.skip_all_params.Given as goal

abbrev pub invariant-loop : goal.invariant-loop
invariant-loop l = Over signed_at l.count l.counter l.rest l.bytes
