use Rattle.std.proofs.Common.{refl, sym, subst, arith, rules}
use Rattle.lane.specs.child_processes.Spawners.{Asks}
use Rattle.lane.specs.Words.{lane_value}
use Rattle.lane.proofs.Asking.{asks-kept, asks-next, asks-stop, words-none}
use Rattle.lane.proofs.started_children.start_all.Goals as goal

pub loop-child-init : goal.loop-child-init
loop-child-init g c =
    let first = g.P.Spawner.sees c.args.spawner.now in
    record {
      count = c.requires.none;
      running = λ k h. absurd (let none = c.requires.none in omega arith);
      left = λ k h. absurd (omega arith);
      asks = subst (Asks first first) (sym (words-none (lane_value c.args.lane.now))) (asks-kept refl);
      fixed = record { gives = refl; ends = refl };
      counted = omega arith;
    }

pub returns-in-Err-clause-asks : goal.returns-in-Err-clause-asks
returns-in-Err-clause-asks g c =
    asks-stop (lane_value c.args.lane.now) c.loop-child.child c.args.lane.now.copies c.loop-child-test.true c.loop-child.invariant.asks
    c.start_child.ensures.asks

pub loop-child-preserved : goal.loop-child-preserved
loop-child-preserved g c =
    let h = c.loop-child.invariant in
    record {
      count = search rules;
      running = search rules;
      left = search rules;
      asks = asks-next (lane_value c.args.lane.now) c.loop-child.child h.asks c.in_default.ensures.all;
      fixed = search rules;
      counted = search rules;
    }
