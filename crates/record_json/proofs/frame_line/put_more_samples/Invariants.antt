use Rattle.std.proofs.Common.{◌≡◌, ◌++◌, length}
use Rattle.std.specs.Prelude.{codes}
use Rattle.std.specs.List.{flat_map}
use Rattle.record_json.specs.Records.{sample_text}
use Rattle.record_json.proofs.frame_line.put_more_samples.Given as goal

abbrev pub invariant-samples : goal.invariant-samples
invariant-samples l = l.out.items ++ flat_map (λ s. codes "," ++ sample_text s) l.samples
    ≡ l.fn.out.items ++ flat_map (λ s. codes "," ++ sample_text s) l.fn.samples

abbrev pub decreases-samples : goal.decreases-samples
decreases-samples l = length l.samples
