use Rattle.record_grammar.specs.Spelling.{spelled_drawn, IsDrawn}
use Rattle.det_record_c.specs.Items.{drawn_in}
use Rattle.det_record_c.proofs.Putting.{PutSo}
use Rattle.det_record_c.proofs.put_frame.put_all_drawn.Given as goal

abbrev pub invariant-loop-element : goal.invariant-loop-element
invariant-loop-element l =
    PutSo (λ e. spelled_drawn l.format (drawn_in l.format e)) (λ e. IsDrawn l.format (drawn_in l.format e)) l.elements l.element-index
    l.at l.initial.out l.end l.out
