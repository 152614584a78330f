use Rattle.det_values.specs.Limits.{KnowsPolicies}
use Rattle.record_grammar.specs.Grammar.{event_at}
use Rattle.record_view.proofs.Many.{HasMany}
use Rattle.record_codec.proofs.read_header.event_list.Given as goal

abbrev pub invariant-loop : goal.invariant-loop
invariant-loop l =
    record {
      read : HasMany (event_at l.format) l.count l.counter l.events.items l.rest l.bytes;
      known : KnowsPolicies l.format l.events.items;
    }
