use Rattle.std.specs.Prelude.{◌++◌, codes}
use Rattle.record_json.specs.Records.{event_text}
use Rattle.std.proofs.Common.{append_assoc}
use Rattle.record_json.proofs.Looping.{left_next, left_none}
use Rattle.record_json.proofs.header_line.put_more_events.Goals as goal

pub loop-i-preserved : goal.loop-i-preserved
loop-i-preserved c =
    left_next (λ e. codes "," ++ event_text c.args.format e) _ _ _ _ _ _ c.loop-i-test.true c.index-events-i.is c.loop-i.invariant
    (rw (c.in_ok-put_event.ensures, c.in_ok-put_str.ensures) (simp append_assoc))

pub returns : goal.returns
returns c = left_none (λ e. codes "," ++ event_text c.args.format e) _ _ _ _ c.loop-i-test.false c.loop-i.invariant
