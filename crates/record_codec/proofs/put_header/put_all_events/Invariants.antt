use Rattle.record_grammar.specs.Spelling.{spelled_event, IsEvent}
use Rattle.record_codec.proofs.Appending.{HasPut}
use Rattle.record_codec.proofs.put_header.put_all_events.Given as goal

abbrev pub invariant-loop-event : goal.invariant-loop-event
invariant-loop-event l = HasPut (spelled_event l.format) IsEvent l.events l.event-index l.initial.out.items l.out.items
