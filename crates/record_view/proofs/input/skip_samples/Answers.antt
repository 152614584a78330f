use Rattle.record_grammar.specs.Grammar.{sample_at}
use Rattle.record_view.proofs.Over.{over_stops, over_done}
use Rattle.record_view.proofs.input.skip_samples.Goals as goal

pub returns-in-Err : goal.returns-in-Err
returns-in-Err c = over_stops (sample_at c.args.events) _ _ _ _ _ c.loop-test.true c.in-Err.ensures.gives c.loop.invariant

pub returns : goal.returns
returns c = over_done (sample_at c.args.events) _ _ _ _ c.loop-test.false c.loop.auto.counter-end c.loop.invariant
