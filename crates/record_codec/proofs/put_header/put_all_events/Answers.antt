use Rattle.record_grammar.specs.Spelling.{spelled_event, IsEvent}
use Rattle.record_codec.proofs.Appending.{HasPut-next, HasPut-grows, HasPut-grown}
use Rattle.record_codec.proofs.put_header.put_all_events.Goals as goal

pub returns-in_err-put_event-clause-grows : goal.returns-in_err-put_event-clause-grows
returns-in_err-put_event-clause-grows c =
    HasPut-grows (spelled_event c.args.format) IsEvent _ _ _ _ _ c.loop-event.invariant c.put_event.ensures.grows

pub loop-event-preserved : goal.loop-event-preserved
loop-event-preserved c =
    HasPut-next (spelled_event c.args.format) IsEvent _ _ _ _ _ _ c.loop-event-test.true c.event-item.is c.loop-event.invariant
    c.in_ok-put_event.ensures.ok c.in_ok-put_event.ensures.fields

pub returns-clause-grows : goal.returns-clause-grows
returns-clause-grows c = HasPut-grown (spelled_event c.args.format) IsEvent _ _ _ _ c.loop-event.invariant
