use Rattle.std.proofs.Common.{[], ◌∷◌, refl}
use Rattle.det_io.specs.Traffic.{shelf_run, sink_run}
use Rattle.det_io.proofs.Opening.{asks-all, asks-then-kept}
use Rattle.probes.specs.Shows.{seen}
use Rattle.cli_answers.specs.Outcome.{known_bytes}
use Rattle.run_setup.proofs.lemmas.recorded_run.Beginning.{is_known-name}
use Rattle.run_setup.proofs.lemmas.recorded_run.Resting.{rest, rest-told, keeps-behind}
use Rattle.cmd_rerun.proofs.RestMeets.{meets-rerun, meets-no-run}
use Rattle.cmd_rerun.proofs.lemmas.check_command.Meeting.{checked_by}
use Rattle.cmd_rerun.proofs.lemmas.check_command.Seeing.{saw-whole}
use Rattle.cmd_rerun.proofs.check_command.check_record.check.Goals as goal

pub returns-in-Ok-clause-meets : goal.returns-in-Ok-clause-meets
returns-in-Ok-clause-meets g c =
    let old = seen (λ b. (goal.Probe-dyn g (b.vtable, b.value)).life b.value) c.args.audience.now in
    let opened = c.in-Ok.ensures in
    let shelf = shelf_run g.S.Slots.sees g.S.Slots.stays c.open_recorded_run.new.shelf c.check_by_crew.new.shelf in
    let out = sink_run g.K.Sink.took g.K.Sink.faults c.args.out.now c.check_by_crew.new.out in
    meets-rerun (checked_by old) shelf out c.check_by_crew.result opened.begun opened.run opened.traffic.counted
    c.check_by_crew.ensures.rerun

pub returns-in-Ok-clause-ends : goal.returns-in-Ok-clause-ends
returns-in-Ok-clause-ends g c = c.check_by_crew.ensures.rerun.ends

pub returns-in-Ok-clause-asked : goal.returns-in-Ok-clause-asked
returns-in-Ok-clause-asked g c =
    let begun = c.in-Ok.ensures.begun in
    let reads = c.check_by_crew.ensures.rerun.reads begun.read begun.gave in
    asks-all _ _ (c.args.recorded.now ∷ []) (asks-then-kept c.in-Ok.ensures.asked reads.1.asked)

pub returns-in-Ok-clause-saw : goal.returns-in-Ok-clause-saw
returns-in-Ok-clause-saw g c ne is_known =
    let first = g.S.Slots.sees c.args.shelf.now in
    let name = c.args.recorded.now in
    let old = seen (λ b. (goal.Probe-dyn g (b.vtable, b.value)).life b.value) c.args.audience.now in
    let now = seen (λ b. (goal.Probe-dyn g (b.vtable, b.value)).life b.value) c.check_by_crew.new.audience in
    let begun = c.in-Ok.ensures.begun in
    let known = is_known-name first name is_known in
    let left = rest-told begun known in
    saw-whole begun old now (known_bytes first name) (c.in-Ok.ensures.run known) left.1
    (c.check_by_crew.ensures.saw begun.read (rest begun) begun.gave ne left.0)

pub returns-in-Err-clause-meets : goal.returns-in-Err-clause-meets
returns-in-Err-clause-meets g c =
    let old = seen (λ b. (goal.Probe-dyn g (b.vtable, b.value)).life b.value) c.args.audience.now in
    let read = c.in-Err.ensures in
    rw c.bad_run_answer.ensures
    (meets-no-run (checked_by old) (λ bytes why. refl) (g.S.Slots.sees c.args.shelf.now) (g.S.Slots.sees c.open_recorded_run.new.shelf)
    c.args.recorded.now _ _ _ c.in-Err.end read.refused read.traffic.cause read.writes_nothing)

pub returns-in-Ok-clause-earlier : goal.returns-in-Ok-clause-earlier
returns-in-Ok-clause-earlier g c =
    let begun = c.in-Ok.ensures.begun in
    keeps-behind begun (c.check_by_crew.ensures.rerun.reads begun.read begun.gave).1
