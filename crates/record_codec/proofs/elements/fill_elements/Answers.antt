use Rattle.std.proofs.Common.{◌≡◌, ◌<◌, List, ◌++◌, sym, ap, subst, ◌∙◌, arith}
use Rattle.std.proofs.lemmas.List.Elements.{All-from_get_or}
use Rattle.std.proofs.lemmas.Result.{on_ok_weaker}
use Rattle.det_values.specs.declared.frames.DrawnElement.{DrawnElement}
use Rattle.record_view.specs.Parts.{ElementsOf}
use Rattle.record_codec.proofs.Made.{stand_in}
use Rattle.record_codec.proofs.elements.fill_elements.Goals as goal

pub extend_spelled-requires-clause-spelled : goal.extend_spelled-requires-clause-spelled
extend_spelled-requires-clause-spelled c =
    let view = c.args.view in
    let h = c.requires.shows.2 in
    let s = stand_in view.format view.elements view.elements_at view.output_at c.requires.shows.0 c.args.bytes.now c.requires.shows.1
    c.in-Two.is (All-from_get_or (λ b. b < 256) c.args.bytes.now 0 (λ i l. omega (arith, c.type_inv.bytes i))) h in
    (h.elements, c.element_span.ensures ∙ s.spelling, s.counted, s.fields)

pub returns-in-One : goal.returns-in-One
returns-in-One c =
    on_ok_weaker c.push_elements.result
    (λ (is : c.push_elements.new.elements ≡ c.clear.new.self ++ c.view_elements.result) len outcome h.
    subst (λ (es : List DrawnElement). ElementsOf es outcome)
    (sym (is ∙ ap (λ (xs : List DrawnElement). xs ++ c.view_elements.result) c.clear.ensures))
    (c.view_elements.ensures.is c.args.view.output_at len outcome h)) c.push_elements.ensures

pub returns-in-Two : goal.returns-in-Two
returns-in-Two c =
    on_ok_weaker c.extend_spelled.result
    (λ is len outcome h.
    let view = c.args.view in
    let s = stand_in view.format view.elements view.elements_at view.output_at len c.args.bytes.now outcome c.in-Two.is
    (All-from_get_or (λ b. b < 256) c.args.bytes.now 0 (λ i l. omega (arith, c.type_inv.bytes i))) h in
    let made = is h.elements (c.element_span.ensures ∙ s.spelling) s.counted s.fields in
    let all = made ∙ ap (λ (xs : List DrawnElement). xs ++ h.elements) c.clear.ensures in
    subst (ElementsOf c.extend_spelled.new.self) (sym h.is) all) c.extend_spelled.ensures.ok
