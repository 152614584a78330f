use Rattle.record_grammar.specs.Spelling.{spelled_sample, IsSample}
use Rattle.record_codec.proofs.Appending.{HasPut-next, HasPut-grows, HasPut-grown}
use Rattle.record_codec.proofs.put_frame.put_samples.Goals as goal

pub returns-in_err-put_sample-clause-grows : goal.returns-in_err-put_sample-clause-grows
returns-in_err-put_sample-clause-grows c =
    HasPut-grows spelled_sample (IsSample c.args.events) _ _ _ _ _ c.loop-sample.invariant c.put_sample.ensures.grows

pub loop-sample-preserved : goal.loop-sample-preserved
loop-sample-preserved c =
    HasPut-next spelled_sample (IsSample c.args.events) _ _ _ _ _ _ c.loop-sample-test.true c.sample-item.is c.loop-sample.invariant
    c.in_ok-put_sample.ensures.ok c.in_ok-put_sample.ensures.fields

pub returns-clause-grows : goal.returns-clause-grows
returns-clause-grows c = HasPut-grown spelled_sample (IsSample c.args.events) _ _ _ _ c.loop-sample.invariant
