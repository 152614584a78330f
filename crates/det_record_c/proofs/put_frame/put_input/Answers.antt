use Rattle.std.proofs.Common.{ℕ, ◌++◌, map, sym, ap}
use Rattle.std.specs.List.{flat_map}
use Rattle.std.proofs.lemmas.List.{length-map}
use Rattle.det_values.specs.Spelling.{spelled_u32}
use Rattle.record_grammar.specs.Spelling.{spelled_time, spelled_sample}
use Rattle.c_types.specs.CValues.{sample_of, time_of}
use Rattle.det_record_c.proofs.Putting.{puts_then, puts_as}
use Rattle.det_record_c.proofs.put_frame.put_input.Goals as goal

pub returns-clause-puts : goal.returns-clause-puts
returns-clause-puts c =
    puts_as _ _ _ _ _ _
    (ap (λ (k : ℕ). spelled_time (time_of c.args.time.now) ++ (spelled_u32 k ++ flat_map spelled_sample (map sample_of c.args.samples.now)))
    (sym (length-map c.args.samples.now sample_of)))
    (puts_then _ _ _ _ _ _ _ _ (puts_as _ _ _ _ _ _ (ap spelled_time c.time.ensures) c.put_time-at.ensures.puts)
    (puts_then _ _ _ _ _ _ _ _ c.put_u32-at.ensures c.put_samples.ensures))
