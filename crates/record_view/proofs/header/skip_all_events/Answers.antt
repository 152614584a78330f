use Rattle.record_grammar.specs.Grammar.{event_at}
use Rattle.record_view.proofs.Over.{over_stops, over_done}
use Rattle.record_view.proofs.header.skip_all_events.Goals as goal

pub returns-in-Err : goal.returns-in-Err
returns-in-Err c = over_stops (event_at c.args.format) _ _ _ _ _ c.loop-test.true c.in-Err.ensures c.loop.invariant

pub returns : goal.returns
returns c = over_done (event_at c.args.format) _ _ _ _ c.loop-test.false c.loop.auto.counter-end c.loop.invariant
