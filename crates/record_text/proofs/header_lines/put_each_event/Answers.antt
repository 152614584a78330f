use Rattle.record_text.specs.Records.{event_line}
use Rattle.record_text.proofs.Numbering.{HasNumbered-at, HasNumbered-done}
use Rattle.record_text.proofs.header_lines.put_each_event.Goals as goal

pub loop-i-preserved : goal.loop-i-preserved
loop-i-preserved c =
    HasNumbered-at (event_line c.args.format) _ _ _ _ _ _ c.loop-i-test.true c.index-events-i.is c.loop-i.invariant
    c.in_ok-put_event_line.ensures

pub returns : goal.returns
returns c = HasNumbered-done (event_line c.args.format) _ _ _ _ _ c.loop-i-test.false c.loop-i.invariant
