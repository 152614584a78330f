use Rattle.std.proofs.Common.{arith}
use Rattle.record_json.proofs.Looping.{listed_put}
use Rattle.record_json.specs.Records.{event_text}
use Rattle.record_json.proofs.header_line.put_events.Goals as goal

pub returns : goal.returns
returns c =
    listed_put (event_text c.args.format) c.args.events.now _ _ _ _ (grind arith) c.index-events-0.is c.in_ok-put_event.ensures
    c.in_ok-put_more_events.ensures
