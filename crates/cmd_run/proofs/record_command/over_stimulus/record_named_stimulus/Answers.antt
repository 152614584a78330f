use Rattle.std.proofs.Common.{[], ◌∷◌, ap}
use Rattle.std.specs.Prelude.{IsSome}
use Rattle.det_io.specs.Traffic.{shelf_run, sink_run}
use Rattle.det_io.proofs.Counts.{rose-before}
use Rattle.det_io.proofs.Opening.{asks-all, asks-then-kept, opens-left}
use Rattle.cli_answers.specs.Outcome.{known_bytes}
use Rattle.cli_answers.proofs.Keeping.{keeps-stay, keeps-opens, keeps-read}
use Rattle.cli_answers.proofs.AnswerMeets.{meets-unopened}
use Rattle.cli_answers.proofs.KnownBytes.{held}
use Rattle.run_setup.proofs.Meeting.{meets-unchanged}
use Rattle.cmd_run.proofs.lemmas.record_command.Recorded.{met-by-kind, reads-by-kind}
use Rattle.cmd_run.proofs.record_command.over_stimulus.record_named_stimulus.Goals as goal

pub returns-in-Err-clause-meets : goal.returns-in-Err-clause-meets
returns-in-Err-clause-meets g c =
    rw c.from.ensures (meets-unopened _ _ _ _ _ _ _ c.in-Err.ensures.cause c.in-Err.ensures.writes_nothing)

pub returns-in-Ok-with_crew-clause-meets : goal.returns-in-Ok-with_crew-clause-meets
returns-in-Ok-with_crew-clause-meets g c =
    let first = g.S.Slots.sees c.args.shelf.now in
    let text = known_bytes first c.args.stimulus.now in
    let opened = c.in-Ok.ensures in
    let shelf = shelf_run g.S.Slots.sees g.S.Slots.stays c.open_input.new.self c.with_crew.new.shelf in
    let out = sink_run g.K.Sink.took g.K.Sink.faults c.args.out.now c.with_crew.new.sink in
    met-by-kind text c.in-Ok.slot shelf out _ _ (IsSome (first.holds c.args.stimulus.now)) _
    (λ t. opens-left text opened.opens (held (first.holds c.args.stimulus.now) t)) (rose-before _ _ _ opened.counted)
    c.args.run.kind c.args.run.profile c.in-Ok-with_crew.recorded c.stimulus_answer.result c.stimulus_answer.ensures.is
    c.in-Ok-with_crew.ensures.given

pub returns-clause-meets : goal.returns-clause-meets
returns-clause-meets g c = meets-unchanged _ _ _ _ (ap g.K.Sink.took c.in-Err-with_crew.ensures.sink)

pub returns-in-Ok-with_crew-clause-asked : goal.returns-in-Ok-with_crew-clause-asked
returns-in-Ok-with_crew-clause-asked g c =
    let shelf = shelf_run g.S.Slots.sees g.S.Slots.stays c.open_input.new.self c.with_crew.new.shelf in
    let out = sink_run g.K.Sink.took g.K.Sink.faults c.args.out.now c.with_crew.new.sink in
    asks-all _ _ (c.args.stimulus.now ∷ []) (asks-then-kept c.in-Ok.ensures.asked
    (reads-by-kind c.args.run.kind c.args.run.profile c.in-Ok.slot shelf out _ _ c.in-Ok-with_crew.recorded
    c.in-Ok-with_crew.ensures.given).1.asked)

pub returns-in-Err-clause-earlier : goal.returns-in-Err-clause-earlier
returns-in-Err-clause-earlier g c = keeps-stay c.in-Err.ensures.slots

pub returns-in-Ok-with_crew-clause-earlier : goal.returns-in-Ok-with_crew-clause-earlier
returns-in-Ok-with_crew-clause-earlier g c =
    let shelf = shelf_run g.S.Slots.sees g.S.Slots.stays c.open_input.new.self c.with_crew.new.shelf in
    let out = sink_run g.K.Sink.took g.K.Sink.faults c.args.out.now c.with_crew.new.sink in
    keeps-read c.in-Ok.ensures.opens
    (reads-by-kind c.args.run.kind c.args.run.profile c.in-Ok.slot shelf out _ _ c.in-Ok-with_crew.recorded
    c.in-Ok-with_crew.ensures.given).1

pub returns-clause-earlier : goal.returns-clause-earlier
returns-clause-earlier g c = rw c.in-Err-with_crew.ensures.shelf (keeps-opens c.in-Ok.ensures.opens)
