use Rattle.std.proofs.Common.{drop, sym, ap, ◌∙◌, arith}
use Rattle.det_values.specs.declared.format.Format.{Format}
use Rattle.record_grammar.specs.Grammar.{drawn_at}
use Rattle.c_types.specs.CValues.{drawn_of}
use Rattle.det_reading_c.proofs.Elements.{after_is, got_element}
use Rattle.det_reading_c.proofs.frame_parts.det_frame_element.Goals as goal

pub overflow_sub-at : goal.overflow_sub-at
overflow_sub-at c =
    (after_is c.format_of_elements.result c.args.at.now c.args.bytes.now (drawn_of c.in-Some.first) c.in-Some.after.now
    (ap (drawn_at c.format_of_elements.result) (sym c.rest_from-rest.ensures) ∙ c.in-Some.ensures)).room

pub returns-in-Some : goal.returns-in-Some
returns-in-Some c =
    let e = ap (drawn_at c.format_of_elements.result) (sym c.rest_from-rest.ensures) ∙ c.in-Some.ensures in
    let b = after_is c.format_of_elements.result c.args.at.now c.args.bytes.now (drawn_of c.in-Some.first) c.in-Some.after.now e in (
      ap (λ (f : Format). drawn_at f (drop c.args.at.now c.args.bytes.now)) (sym c.format_of_elements.ensures) ∙ e
          ∙ ap (got_element (drawn_of c.in-Some.first)) b.is,
      omega arith,
    )
