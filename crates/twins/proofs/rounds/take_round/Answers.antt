use Rattle.std.proofs.Common.{◌<◌, length, ap, ◌∙◌, subst, arith}
use Rattle.std.specs.Option.{option_or}
use Rattle.std.proofs.lemmas.List.{length-set}
use Rattle.frame_queue.specs.declared.queue.FrameQueue.{FrameQueue}
use Rattle.twins.specs.Intakes.{IsIntakeOf}
use Rattle.twins.proofs.InTurn.{round-begins, round-goes, not-yet}
use Rattle.twins.proofs.rounds.take_round.Goals as goal

pub others-init : goal.others-init
others-init g c = record {
  round = round-begins c.args.number c.args.queues.now c.args.intakes.now c.index-queues-0.result c.index-intakes-0.result
      c.take-ours.new.self c.take-ours.result c.requires.intakes c.requires.taken
      (let n = c.requires.intakes.count in let some = c.requires.some in omega (arith, n, some))
      (subst (λ (q : FrameQueue). IsIntakeOf q c.take-ours.new.self) c.index-queues-0.is c.take-ours.ensures.queue)
      c.take-ours.ensures.taken c.take-ours.ensures.rows;
  end = length-set c.args.intakes.now 0 c.take-ours.new.self;
}

pub take-row-requires-clause-room : goal.take-row-requires-clause-room
take-row-requires-clause-room g c =
    let r = c.others.invariant.round in
    let within : c.others.copy < length c.others.intakes =
    (let e = c.others.invariant.end in let t = c.others-test.true in let many = r.many in omega (arith, e, t, many)) in
    let at = not-yet c.others.copy c.args.number c.args.queues.now c.args.intakes.now c.others.intakes c.take-ours.result c.others.found
    c.index-intakes-copy.result r c.requires.taken within in
    let room = c.requires.room in
    omega (arith, at, room)

pub others-preserved : goal.others-preserved
others-preserved g c =
    let r = c.others.invariant.round in
    let within : c.others.copy < length c.others.intakes =
    (let e = c.others.invariant.end in let t = c.others-test.true in let many = r.many in omega (arith, e, t, many)) in
    record {
      round = round-goes c.others.copy c.args.number c.args.queues.now c.args.intakes.now c.others.intakes c.take-ours.result
          c.take-row.result
          c.others.found c.or-found.result c.index-queues-copy.result c.index-intakes-copy.result c.take-row.new.self r
          c.requires.taken
          within
          (subst (λ (q : FrameQueue). IsIntakeOf q c.take-row.new.self) c.index-queues-copy.is c.take-row.ensures.queue)
          c.take-row.ensures.taken c.take-row.ensures.rows
          (c.or-found.ensures ∙ ap (option_or c.others.found) c.difference_verdict.ensures);
      end = c.others.invariant.end;
    }
