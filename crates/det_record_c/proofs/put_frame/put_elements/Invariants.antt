use Rattle.record_grammar.specs.Spelling.{spelled_element, IsElement}
use Rattle.c_types.specs.CValues.{bytes_of}
use Rattle.det_record_c.proofs.Putting.{PutSo}
use Rattle.det_record_c.proofs.put_frame.put_elements.Given as goal

abbrev pub invariant-loop-element : goal.invariant-loop-element
invariant-loop-element l =
    PutSo (λ e. spelled_element (bytes_of e)) (λ e. IsElement (bytes_of e)) l.elements l.element-index l.at l.initial.out l.end l.out
