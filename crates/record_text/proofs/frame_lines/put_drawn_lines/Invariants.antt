use Rattle.record_text.specs.Records.{drawn_line}
use Rattle.record_text.proofs.Numbering.{HasNumbered}
use Rattle.record_text.proofs.frame_lines.put_drawn_lines.Given as goal

abbrev pub invariant-elements : goal.invariant-elements
invariant-elements l = HasNumbered (drawn_line l.format) l.fn.elements l.number l.elements l.initial.out.items l.out.items
