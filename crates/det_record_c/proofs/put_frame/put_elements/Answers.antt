use Rattle.std.proofs.Common.{sym}
use Rattle.std.proofs.lemmas.List.Elements.{All-map}
use Rattle.std.proofs.lemmas.List.Folds.{flat_map-map}
use Rattle.record_grammar.specs.Spelling.{spelled_element, IsElement}
use Rattle.c_types.specs.CValues.{bytes_of}
use Rattle.det_record_c.proofs.Putting.{puts_as, PutSo-at, PutSo-done}
use Rattle.det_record_c.proofs.put_frame.put_elements.Goals as goal

pub loop-element-preserved : goal.loop-element-preserved
loop-element-preserved c =
    PutSo-at (λ e. spelled_element (bytes_of e)) (λ e. IsElement (bytes_of e)) _ _ _ _ _ _ _ _ _ c.loop-element-test.true
    c.loop-element.invariant c.put_initial-end.ensures.puts c.put_initial-end.ensures.fields

pub returns-clause-puts : goal.returns-clause-puts
returns-clause-puts c =
    puts_as _ _ _ _ _ _ (sym (flat_map-map spelled_element bytes_of c.args.elements.now))
    (PutSo-done (λ e. spelled_element (bytes_of e)) (λ e. IsElement (bytes_of e)) _ _ _ _ _ _ c.loop-element-test.false
    c.loop-element.invariant).0

pub returns-clause-fields : goal.returns-clause-fields
returns-clause-fields c =
    All-map IsElement bytes_of c.args.elements.now
    (PutSo-done (λ e. spelled_element (bytes_of e)) (λ e. IsElement (bytes_of e)) _ _ _ _ _ _ c.loop-element-test.false
    c.loop-element.invariant).1
