use Rattle.std.proofs.Common.{[], ◌∷◌, refl}
use Rattle.det_io.specs.Traffic.{shelf_run, sink_run}
use Rattle.det_io.proofs.Opening.{asks-all, asks-then-kept}
use Rattle.run_setup.proofs.lemmas.recorded_run.Resting.{keeps-behind}
use Rattle.cmd_rerun.proofs.RestMeets.{meets-rerun, meets-no-run}
use Rattle.cmd_rerun.proofs.lemmas.rewrite.Meeting.{rewritten_by}
use Rattle.cmd_rerun.proofs.rewrite.rewrite_record.rewrite_named_record.Goals as goal

pub returns-in-Ok-clause-meets : goal.returns-in-Ok-clause-meets
returns-in-Ok-clause-meets g c =
    let opened = c.in-Ok.ensures in
    let shelf = shelf_run g.S.Slots.sees g.S.Slots.stays c.open_recorded_run.new.shelf c.rewrite_by_crew.new.shelf in
    let out = sink_run g.K.Sink.took g.K.Sink.faults c.args.out.now c.rewrite_by_crew.new.out in
    meets-rerun (rewritten_by c.args.rewrite) shelf out c.rewrite_by_crew.result opened.begun opened.run opened.traffic.counted
    c.rewrite_by_crew.ensures

pub returns-in-Ok-clause-ends : goal.returns-in-Ok-clause-ends
returns-in-Ok-clause-ends g c = c.rewrite_by_crew.ensures.ends

pub returns-in-Ok-clause-asked : goal.returns-in-Ok-clause-asked
returns-in-Ok-clause-asked g c =
    let begun = c.in-Ok.ensures.begun in
    let reads = c.rewrite_by_crew.ensures.reads begun.read begun.gave in
    asks-all _ _ (c.args.recorded.now ∷ []) (asks-then-kept c.in-Ok.ensures.asked reads.1.asked)

pub returns-in-Err-clause-meets : goal.returns-in-Err-clause-meets
returns-in-Err-clause-meets g c =
    let read = c.in-Err.ensures in
    rw c.bad_run_answer.ensures
    (meets-no-run (rewritten_by c.args.rewrite) (λ bytes why. refl) (g.S.Slots.sees c.args.shelf.now) (g.S.Slots.sees c.open_recorded_run.new.shelf)
    c.args.recorded.now _ _ _ c.in-Err.end read.refused read.traffic.cause read.writes_nothing)

pub returns-in-Ok-clause-earlier : goal.returns-in-Ok-clause-earlier
returns-in-Ok-clause-earlier g c =
    let begun = c.in-Ok.ensures.begun in
    keeps-behind begun (c.rewrite_by_crew.ensures.reads begun.read begun.gave).1
