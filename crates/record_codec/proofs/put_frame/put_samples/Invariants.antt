use Rattle.record_grammar.specs.Spelling.{spelled_sample, IsSample}
use Rattle.record_codec.proofs.Appending.{HasPut}
use Rattle.record_codec.proofs.put_frame.put_samples.Given as goal

abbrev pub invariant-loop-sample : goal.invariant-loop-sample
invariant-loop-sample l = HasPut spelled_sample (IsSample l.events) l.samples l.sample-index l.initial.out.items l.out.items
