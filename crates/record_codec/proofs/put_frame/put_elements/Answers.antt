use Rattle.record_grammar.specs.Spelling.{spelled_element, IsElement}
use Rattle.record_codec.proofs.Appending.{HasPut-next, HasPut-grows, HasPut-grown}
use Rattle.record_codec.proofs.put_frame.put_elements.Goals as goal

pub returns-in_err-put_element-clause-grows : goal.returns-in_err-put_element-clause-grows
returns-in_err-put_element-clause-grows c =
    HasPut-grows spelled_element IsElement _ _ _ _ _ c.loop-element.invariant c.put_element.ensures.grows

pub loop-element-preserved : goal.loop-element-preserved
loop-element-preserved c =
    HasPut-next spelled_element IsElement _ _ _ _ _ _ c.loop-element-test.true c.element-item.is c.loop-element.invariant
    c.in_ok-put_element.ensures.ok c.in_ok-put_element.ensures.fields

pub returns-clause-grows : goal.returns-clause-grows
returns-clause-grows c = HasPut-grown spelled_element IsElement _ _ _ _ c.loop-element.invariant
