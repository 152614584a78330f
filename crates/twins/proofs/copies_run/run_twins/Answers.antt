use Rattle.std.proofs.Common.{◌≡◌, ◌<◌, List, Vec, Global, length, sym, ap, ◌∙◌, subst, rules, arith}
use Rattle.std.specs.Option.{unwrap_or}
use Rattle.copies.specs.declared.verdict.Verdict.TheVariants.{Agree}
use Rattle.frame_queue.specs.Queues.{IsSenderOf}
use Rattle.twins.specs.declared.taker.Intake.{Intake}
use Rattle.twins.specs.declared.twin.Twin.{Twin}
use Rattle.twins.specs.ClosedQueues.{AreBegun}
use Rattle.twins.specs.TwinFrames.{IsTwin}
use Rattle.twins.specs.Pairs.{EachPair}
use Rattle.twins.specs.Sides.{twins_of}
use Rattle.twins.specs.TwinQueues.{numbers_of}
use Rattle.twins.specs.TakenRows.{HaveTaken}
use Rattle.twins.proofs.Begun.{many-begun}
use Rattle.twins.proofs.Judging.{none-agreed, intakes-judged, decided}
use Rattle.twins.proofs.Pairs.{pair_then}
use Rattle.twins.proofs.copies_run.run_twins.Goals as goal

items : {X : Type 0} {v w : Vec X Global} → v ≡ w → v.items ≡ w.items
items {X} e = ap (λ (v : Vec X Global). v.items) e

pub new-sides-requires : goal.new-sides-requires
new-sides-requires g c =
    let many = many-begun c.args.copies c.in_ok-begun.begun c.in_ok-begun.ensures in
    let some = c.requires.some in
    omega (arith, many, some)

pub exchange_all-requires-clause-sides : goal.exchange_all-requires-clause-sides
exchange_all-requires-clause-sides g c κs within =
    let twin = IsTwin g.J.Job.meaning c.args.run.now.profile c.args.run.now.inputs (g.T.Tamper.altered c.args.run.now.tamper) in
    let begun = c.in_ok-begun.ensures in
    let many = many-begun c.args.copies c.in_ok-begun.begun begun in
    let same = begun.twins.count in
    let value = ap length c.as_slice.ensures.value in
    let some = c.requires.some in
    let few = c.requires.few in
    let intakes : c.new-sides.result.taker.intakes.items ≡ c.in_ok-begun.begun.intakes.items = items c.new-sides.ensures.intakes in
    let twins : EachPair twin c.as_slice.result.now (twins_of c.new-sides.result) =
    rw (c.as_slice.ensures.value, c.new-sides.ensures.twins) begun.twins in
    record {
      known = c.requires.known;
      twins = twins;
      takes = record {
        some = omega (arith, many, same, value, some);
        few = omega (arith, many, same, value, few);
        room = omega (arith, c.new-sides.ensures.rows);
        agreed = none-agreed c.as_slice.result.now c.new-sides.result.taker (rw (c.as_slice.ensures.value, intakes) begun.intakes)
            (subst (λ (l : List Intake). HaveTaken 0 l) (sym intakes) begun.taken) c.new-sides.ensures.rows;
      };
    }

pub close_all-requires-clause-senders : goal.close_all-requires-clause-senders
close_all-requires-clause-senders g c =
    let twin = IsTwin g.J.Job.meaning c.args.run.now.profile c.args.run.now.inputs (g.T.Tamper.altered c.args.run.now.tamper) in
    let sent : EachPair twin c.in_ok-begun.begun.queues.items c.in_ok-twins.twins.items =
    rw c.in_ok-twins.ensures.twins (rw c.as_slice.ensures.value at c.in_ok-sides.ensures.sends.twins) in
    pair_then twin (λ q (t : Twin _ _ _ _ _). IsSenderOf q t.sender) c.in_ok-begun.begun.queues.items c.in_ok-twins.twins.items
    (λ q t p. p.sender) sent

pub close_all-requires-clause-intakes : goal.close_all-requires-clause-intakes
close_all-requires-clause-intakes g c =
    let intakes : c.in_ok-twins.intakes.items ≡ c.in_ok-sides.sides.taker.intakes.items = items c.in_ok-twins.ensures.intakes in
    rw intakes (rw c.as_slice.ensures.value at
    (intakes-judged c.in_ok-sides.found c.as_slice.result.now c.in_ok-sides.sides.taker c.in_ok-sides.ensures.judged))

pub returns : goal.returns
returns g c =
    let twin = IsTwin g.J.Job.meaning c.args.run.now.profile c.args.run.now.inputs (g.T.Tamper.altered c.args.run.now.tamper) in
    let sent : EachPair twin c.as_slice.result.now c.in_ok-twins.twins.items = rw c.in_ok-twins.ensures.twins c.in_ok-sides.ensures.sends.twins in
    let intakes : c.in_ok-twins.intakes.items ≡ c.in_ok-sides.sides.taker.intakes.items = items c.in_ok-twins.ensures.intakes in
    let closed : AreBegun c.in_ok-sides.sides.taker.intakes.items c.in_ok-twins.twins.items =
    subst (λ (l : List Intake). AreBegun l c.in_ok-twins.twins.items) intakes c.close_all.ensures in
    let numbers = ap numbers_of c.in_ok-twins.ensures.twins ∙ c.in_ok-sides.ensures.sends.numbers ∙ ap numbers_of c.new-sides.ensures.twins
    ∙ c.in_ok-begun.ensures.numbers in
    let some : 0 < length c.in_ok-sides.sides.taker.intakes.items =
    (let many = many-begun c.args.copies c.in_ok-begun.begun c.in_ok-begun.ensures in
    let same = c.in_ok-begun.ensures.twins.count in
    let value = ap length c.as_slice.ensures.value in
    let all = intakes-judged c.in_ok-sides.found c.as_slice.result.now c.in_ok-sides.sides.taker c.in_ok-sides.ensures.judged in
    let judged = all.count in
    let few = c.requires.some in
    omega (arith, many, same, value, judged, few)) in
    let verdict = decided g.J.Job.meaning c.args.run.now.profile c.args.run.now.inputs (g.T.Tamper.altered c.args.run.now.tamper)
    c.args.copies c.as_slice.result.now c.in_ok-sides.sides.taker c.in_ok-twins.twins.items c.in_ok-sides.found some sent closed numbers
    c.in_ok-sides.ensures.judged c.in_ok-sides.ensures.rows in
    let count : c.len.result ≡ length c.args.run.now.inputs = search (rules, c.len.ensures) in
    c.unwrap_or.ensures ∙ ap (λ n. unwrap_or c.in_ok-sides.found (Agree n)) count ∙ verdict
