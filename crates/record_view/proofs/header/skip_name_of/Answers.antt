use Rattle.record_grammar.specs.Grammar.{name_byte_at}
use Rattle.record_view.proofs.Over.{over_stops, over_done}
use Rattle.record_view.proofs.header.skip_name_of.Goals as goal

pub returns-in-Err : goal.returns-in-Err
returns-in-Err c = over_stops name_byte_at _ _ _ _ _ c.loop-test.true c.in-Err.ensures c.loop.invariant

pub returns : goal.returns
returns c = over_done name_byte_at _ _ _ _ c.loop-test.false c.loop.auto.counter-end c.loop.invariant
