use Rattle.std.proofs.Common.{arith}
use Rattle.det_values.proofs.Undrawing.{undrawing_begin, undrawing_in, undrawing_room, undrawing_more, undrawing_none, undrawing_done}
use Rattle.det_values.proofs.FlatReading.{length-elements_in}
use Rattle.det_values.proofs.clear_draws.clear_all_draws.Goals as goal

pub loop-init : goal.loop-init
loop-init c = undrawing_begin _ _ c.requires

pub drawn_element_end-requires : goal.drawn_element_end-requires
drawn_element_end-requires c = undrawing_in _ _ _ _ c.loop.invariant

pub overflow_sub-end : goal.overflow_sub-end
overflow_sub-end c = (undrawing_room _ _ _ c.in-Some.ensures.some (undrawing_in _ _ _ _ c.loop.invariant)).0

pub fill_zero-requires : goal.fill_zero-requires
fill_zero-requires c = (undrawing_room _ _ _ c.in-Some.ensures.some (undrawing_in _ _ _ _ c.loop.invariant)).1

pub returns : goal.returns
returns c = undrawing_done _ _ _ _ _ c.loop-test.false c.loop.invariant

pub returns-in-None : goal.returns-in-None
returns-in-None c = absurd (undrawing_none _ _ _ _ (omega (arith, c.loop-test.true, length-elements_in c.args.count c.args.bytes.now))
    c.loop.invariant c.in-None.ensures.none)

pub loop-preserved : goal.loop-preserved
loop-preserved c = undrawing_more _ _ _ _ _ _ (omega (arith, c.loop-test.true, length-elements_in c.args.count c.args.bytes.now))
    c.loop.invariant c.in-Some.ensures.some c.fill_zero.ensures
