use Rattle.record_grammar.specs.Grammar.{signed_at}
use Rattle.record_view.proofs.Many.{HasMany}
use Rattle.record_codec.proofs.read_header.param_list.Given as goal

abbrev pub invariant-loop : goal.invariant-loop
invariant-loop l = HasMany signed_at l.count l.counter l.params.items l.rest l.bytes
