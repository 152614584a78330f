use Rattle.record_grammar.specs.Grammar.{sample_at}
use Rattle.record_view.proofs.Over.{Over}
use Rattle.record_view.proofs.input.skip_samples.Given as goal

abbrev pub invariant-loop : goal.invariant-loop
invariant-loop l = Over (sample_at l.events) l.count l.counter l.rest l.bytes
