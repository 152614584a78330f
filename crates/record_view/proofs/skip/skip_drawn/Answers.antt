use Rattle.record_grammar.specs.Grammar.{drawn_at}
use Rattle.record_grammar.proofs.SteadyFields.{drawn_steady}
use Rattle.record_view.proofs.Many.{many_stops}
use Rattle.record_view.proofs.Over.{beyond_begin, beyond_next}
use Rattle.record_view.proofs.skip.skip_drawn.Goals as goal

pub loop-left-init : goal.loop-left-init
loop-left-init c = beyond_begin (drawn_at c.args.format) c.args.most c.args.bytes.now

pub loop-left-preserved : goal.loop-left-preserved
loop-left-preserved c =
    beyond_next (drawn_at c.args.format) (drawn_steady c.args.format) c.loop-left.left c.loop-left.rest.now c.args.most c.args.bytes.now _
    c.in-Ok.others.now c.loop-left-test.true
    c.in-Ok.ensures.gives c.loop-left.invariant

pub returns-in-Err : goal.returns-in-Err
returns-in-Err c =
    let h = c.loop-left.invariant.remains in
    record {
      done = c.loop-left.invariant.front;
      continues = h.continues;
      ended = rw h.others (many_stops (drawn_at c.args.format) c.loop-left.left c.loop-left.rest.now c.in-Err.stop c.loop-left-test.true
          c.in-Err.ensures.gives);
    }
