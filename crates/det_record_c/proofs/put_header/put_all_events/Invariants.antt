use Rattle.record_grammar.specs.Spelling.{spelled_event}
use Rattle.c_types.specs.CValues.{event_of}
use Rattle.det_record_c.proofs.Putting.{PutSo}
use Rattle.det_record_c.proofs.put_header.put_all_events.Given as goal

abbrev pub invariant-loop-event : goal.invariant-loop-event
invariant-loop-event l =
    PutSo (λ e. spelled_event l.format (event_of e)) (λ e. Unit {0}) l.events l.event-index l.at l.initial.out l.end l.out
