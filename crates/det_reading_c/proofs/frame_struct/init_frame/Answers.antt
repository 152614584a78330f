use Rattle.std.proofs.Common.{refl}
use Rattle.record_grammar.specs.Grammar.{sample_at}
use Rattle.det_reading_c.proofs.Parts.{no_values, undrawn_read}
use Rattle.det_reading_c.proofs.frame_struct.init_frame.Goals as goal

pub returns-clause-parts : goal.returns-clause-parts
returns-clause-parts c events bytes rest values e = record {
  tag = refl;
  time = c.from_time.ensures;
  samples = no_values (sample_at events) 0 0 bytes _ refl refl;
  elements = undrawn_read c.args.elements 5 bytes values rest e;
  output = refl;
  output_count = refl;
  refusal = refl;
}
