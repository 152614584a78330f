use Rattle.std.proofs.Common.{ap}
use Rattle.det_values.specs.Values.{ProfileValue}
use Rattle.det_io.specs.Traffic.{shelf_run, sink_run}
use Rattle.det_io.proofs.SlotReads.{reads-none}
use Rattle.record_reader.specs.Frames.{slot_of}
use Rattle.rerun.specs.declared.upgrader.original.Original.{Original}
use Rattle.cmd_rerun.proofs.RestMeets.{rerun-no-memory}
use Rattle.cmd_rerun.proofs.lemmas.rewrite.Meeting.{can-rewrite, header-is, rerun-by-kind}
use Rattle.cmd_rerun.proofs.rewrite.rewrite_record.rewrite_by_crew.Goals as goal

pub with_crew-requires-clause-can : goal.with_crew-requires-clause-can
with_crew-requires-clause-can g c =
    let original : Original = record { format = c.profile.inside.format; frames = c.args.run.frames } in
    let same = ap (λ (p : ProfileValue). p.format) c.profile.view_is in
    can-rewrite c.args.rewrite original c.args.run.profile _ (g.S.Slots.sees c.args.shelf.now) same c.profile_of_run-profile.ensures
    c.requires.opened

pub returns-in-Ok : goal.returns-in-Ok
returns-in-Ok g c =
    let run = c.args.run in
    let original : Original = record { format = c.profile.inside.format; frames = run.frames } in
    let shelf = shelf_run g.S.Slots.sees g.S.Slots.stays c.args.shelf.now c.with_crew.new.shelf in
    let out = sink_run g.K.Sink.took g.K.Sink.faults c.args.out.now c.with_crew.new.sink in
    let same = ap (λ (p : ProfileValue). p.format) c.profile.view_is in
    rerun-by-kind c.args.rewrite run.kind run.profile run.frames shelf out c.in-Ok.answer _
    (header-is c.args.rewrite original run.profile _ same c.profile_of_run-profile.ensures) c.in-Ok.ensures.given

pub returns : goal.returns
returns g c =
    let none = reads-none (g.S.Slots.sees c.args.shelf.now) (slot_of c.args.run.frames) in
    rw (c.in-Err.ensures.shelf, c.in-Err.ensures.sink) (rerun-no-memory _ _ _ _ _ _ _ _ none)
