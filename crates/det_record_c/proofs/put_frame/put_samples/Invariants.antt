use Rattle.record_grammar.specs.Spelling.{spelled_sample}
use Rattle.c_types.specs.CValues.{sample_of}
use Rattle.det_record_c.proofs.Putting.{PutSo}
use Rattle.det_record_c.proofs.put_frame.put_samples.Given as goal

abbrev pub invariant-loop-sample : goal.invariant-loop-sample
invariant-loop-sample l =
    PutSo (λ s. spelled_sample (sample_of s)) (λ s. Unit {0}) l.samples l.sample-index l.at l.initial.out l.end l.out
