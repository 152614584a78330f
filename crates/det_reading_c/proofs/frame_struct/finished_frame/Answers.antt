use Rattle.std.proofs.Common.{drop, refl, sym, ◌∙◌, cond}
use Rattle.det_values.specs.declared.format.Format.TheVariants.{One, Two}
use Rattle.det_reading_c.proofs.Parts.{finished_parts}
use Rattle.det_reading_c.proofs.frame_struct.finished_frame.Goals as goal

pub returns-clause-parts : goal.returns-clause-parts
returns-clause-parts c events given outcome i o =
    let p = finished_parts (cond c.spells_draws.result Two One) c.args.view.format c.args.view.elements c.args.view.elements_at
    c.args.view.output_at c.args.length c.u32_from-output_count.result c.args.bytes.now outcome c.spells_draws.ensures
    c.u32_from-output_count.ensures o in
    record {
      tag = refl;
      time = c.from_time.ensures ∙ sym i.time;
      samples = (drop c.args.input.outcome_at c.args.bytes.now, i.samples);
      elements = p.elements;
      output = rw c.saturating_sub.ensures p.output;
      output_count = p.output_count;
      refusal = p.refusal;
    }
