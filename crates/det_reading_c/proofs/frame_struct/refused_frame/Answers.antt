use Rattle.std.proofs.Common.{◌≡◌, drop, refl, sym, ap, length, ◌∙◌}
use Rattle.det_values.specs.declared.format.Format.TheVariants.{One}
use Rattle.det_values.specs.declared.frames.Outcome.TheVariants.{Refused}
use Rattle.record_grammar.specs.Grammar.{drawn_at}
use Rattle.c_types.specs.CValues.{place_of_refusal}
use Rattle.det_reading_c.specs.Frames.{elements_after}
use Rattle.det_reading_c.proofs.Parts.{no_values, refused_elements, refused_output, refused_refusal}
use Rattle.det_reading_c.proofs.frame_struct.refused_frame.Goals as goal

pub returns-clause-parts : goal.returns-clause-parts
returns-clause-parts c events given outcome i o =
    let place = place_of_refusal c.refusal_from.result in
    let e : outcome ≡ Refused place = c.refusal_from.ensures c.args.length outcome o in
    record {
      tag = refl;
      time = c.from_time.ensures ∙ sym i.time;
      samples = (drop c.args.input.outcome_at c.args.bytes.now, i.samples);
      elements = no_values (drawn_at One) 0 0 c.args.bytes.now (elements_after outcome) refl (refused_elements outcome place e);
      output = sym (refused_output outcome place e);
      output_count = sym (ap length (refused_output outcome place e));
      refusal = sym (refused_refusal outcome place e);
    }
