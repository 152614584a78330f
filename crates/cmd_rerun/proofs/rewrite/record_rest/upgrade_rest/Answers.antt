use Rattle.det_io.specs.Traffic.{shelf_run, sink_run}
use Rattle.rerun.specs.upgrader.UpgradeStart.{header_of}
use Rattle.cmd_rerun.proofs.lemmas.upgrade_command.Meeting.{rerun-upgraded}
use Rattle.cmd_rerun.proofs.rewrite.record_rest.upgrade_rest.Goals as goal

pub returns : goal.returns
returns g c =
    let original = c.args.original.now in
    let shelf = shelf_run g.S.Slots.sees g.S.Slots.stays c.args.shelf.now c.upgrade_run.new.shelf in
    let out = sink_run g.K.Sink.took g.K.Sink.faults c.args.sink.now c.upgrade_run.new.sink in
    let run = c.upgrade_run.ensures in
    let answer = c.upgrade_answer.ensures in
    rerun-upgraded g.J.Job.meaning (header_of original c.args.recording.now.profile) original.frames shelf out
    c.upgrade_run.result c.upgrade_answer.result run.upgraded run.shelf_traffic run.sink_traffic answer.is answer.ends
