use Rattle.det_io.specs.Traffic.{shelf_run, sink_run}
use Rattle.cmd_rerun.proofs.lemmas.replay_command.Meeting.{rerun-replayed}
use Rattle.cmd_rerun.proofs.rewrite.record_rest.replay_rest.Goals as goal

pub returns : goal.returns
returns g c =
    let shelf = shelf_run g.S.Slots.sees g.S.Slots.stays c.args.shelf.now c.replay_run.new.shelf in
    let out = sink_run g.K.Sink.took g.K.Sink.faults c.args.sink.now c.replay_run.new.sink in
    let run = c.replay_run.ensures in
    let answer = c.replay_answer.ensures in
    rerun-replayed g.J.Job.meaning c.args.recording.now.profile c.args.frames.now shelf out c.replay_run.result c.replay_answer.result
    run.replayed run.shelf_traffic run.sink_traffic answer.is answer.ends
