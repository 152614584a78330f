use Rattle.record_view.proofs.Reading.{event_got}
use Rattle.record_view.proofs.header.skip_event.Goals as goal

pub returns : goal.returns
returns c = (
  _,
  event_got c.args.format c.args.bytes.now _ _ _ _ _ _ c.in_ok-rest.ensures.gives c.in_ok-rest-2.ensures.1 c.in_ok-rest-3.ensures.1,
)
