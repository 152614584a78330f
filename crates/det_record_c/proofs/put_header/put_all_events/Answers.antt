use Rattle.std.proofs.Common.{sym}
use Rattle.std.proofs.lemmas.List.Folds.{flat_map-map}
use Rattle.record_grammar.specs.Spelling.{spelled_event}
use Rattle.c_types.specs.CValues.{event_of}
use Rattle.det_record_c.proofs.Putting.{puts_as, PutSo-at, PutSo-done}
use Rattle.det_record_c.proofs.put_header.put_all_events.Goals as goal

pub loop-event-preserved : goal.loop-event-preserved
loop-event-preserved c =
    PutSo-at (λ e. spelled_event c.args.format (event_of e)) (λ e. Unit {0}) _ _ _ _ _ _ _ _ _ c.loop-event-test.true
    c.loop-event.invariant c.put_event-end.ensures tt

pub returns : goal.returns
returns c =
    puts_as _ _ _ _ _ _ (sym (flat_map-map (spelled_event c.args.format) event_of c.args.events.now))
    (PutSo-done (λ e. spelled_event c.args.format (event_of e)) (λ e. Unit {0}) _ _ _ _ _ _ c.loop-event-test.false
    c.loop-event.invariant).0
