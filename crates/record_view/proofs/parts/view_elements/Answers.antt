use Rattle.std.proofs.Common.{List, ap, ◌∙◌, arith}
use Rattle.det_values.specs.declared.frames.DrawnElement.{DrawnElement}
use Rattle.record_grammar.specs.Read.{Read, many}
use Rattle.record_grammar.specs.Grammar.{drawn_at}
use Rattle.record_view.specs.Walks.{is_got}
use Rattle.record_view.proofs.Walked.{walk_counted}
use Rattle.record_view.proofs.parts.view_elements.Goals as goal

pub rest_of-requires : goal.rest_of-requires
rest_of-requires c = let h = c.requires.3 in (omega (arith, h.order, h.counted, h.within))

pub returns-clause-count : goal.returns-clause-count
returns-clause-count c =
    let h = c.requires.3 in
    walk_counted (drawn_at c.args.format) c.args.count c.rest_of.result.now
    (ap (λ (r : Read (List DrawnElement)). is_got r) (ap (many (drawn_at c.args.format) c.args.count) c.rest_of.ensures ∙ h.elements_read))
