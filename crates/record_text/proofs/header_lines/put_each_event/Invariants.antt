use Rattle.std.proofs.Common.{drop}
use Rattle.record_text.specs.Records.{event_line}
use Rattle.record_text.proofs.Numbering.{HasNumbered}
use Rattle.record_text.proofs.header_lines.put_each_event.Given as goal

abbrev pub invariant-loop-i : goal.invariant-loop-i
invariant-loop-i l = HasNumbered (event_line l.format) l.events l.i (drop l.i l.events) l.initial.out.items l.out.items
