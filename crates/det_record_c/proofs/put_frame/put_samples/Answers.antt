use Rattle.std.proofs.Common.{sym}
use Rattle.std.proofs.lemmas.List.Folds.{flat_map-map}
use Rattle.record_grammar.specs.Spelling.{spelled_sample}
use Rattle.c_types.specs.CValues.{sample_of}
use Rattle.det_record_c.proofs.Putting.{puts_as, PutSo-at, PutSo-done}
use Rattle.det_record_c.proofs.put_frame.put_samples.Goals as goal

pub loop-sample-preserved : goal.loop-sample-preserved
loop-sample-preserved c =
    PutSo-at (λ s. spelled_sample (sample_of s)) (λ s. Unit {0}) _ _ _ _ _ _ _ _ _ c.loop-sample-test.true
    c.loop-sample.invariant c.put_sample-end.ensures tt

pub returns : goal.returns
returns c =
    puts_as _ _ _ _ _ _ (sym (flat_map-map spelled_sample sample_of c.args.samples.now))
    (PutSo-done (λ s. spelled_sample (sample_of s)) (λ s. Unit {0}) _ _ _ _ _ _ c.loop-sample-test.false c.loop-sample.invariant).0
