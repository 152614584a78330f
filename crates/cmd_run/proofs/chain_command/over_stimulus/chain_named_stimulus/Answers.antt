use Rattle.std.proofs.Common.{[], ◌∷◌, ap}
use Rattle.std.specs.Prelude.{IsSome}
use Rattle.det_io.specs.Count.{Rose}
use Rattle.det_io.specs.StdSink.{NoBytesKnown}
use Rattle.det_io.specs.Traffic.{SinkRun, shelf_run, sink_run}
use Rattle.det_io.proofs.Counts.{rose-none, rose-before}
use Rattle.det_io.proofs.Opening.{asks-all, asks-then-kept, opens-left}
use Rattle.cli_answers.specs.Outcome.{known_bytes}
use Rattle.cli_answers.proofs.Keeping.{keeps-stay, keeps-opens, keeps-read}
use Rattle.cli_answers.proofs.AnswerMeets.{meets-unopened}
use Rattle.cli_answers.proofs.KnownBytes.{held}
use Rattle.run_setup.proofs.Meeting.{meets-unchanged}
use Rattle.cmd_run.specs.chain_command.Clients.{Client}
use Rattle.cmd_run.proofs.lemmas.chain_command.Chained.{met-by-kinds, reads-by-kinds}
use Rattle.cmd_run.proofs.chain_command.over_stimulus.chain_named_stimulus.Goals as goal

-- the first record, which nobody takes
abbrev untaken : SinkRun
untaken = record { before = NoBytesKnown; after = NoBytesKnown; faults_before = 0; faults_after = 0 }

pub returns-in-Err-clause-meets : goal.returns-in-Err-clause-meets
returns-in-Err-clause-meets g c =
    rw c.from.ensures (meets-unopened _ _ _ _ _ _ _ c.in-Err.ensures.cause c.in-Err.ensures.writes_nothing)

pub returns-in-Ok-with_two_crews-clause-meets : goal.returns-in-Ok-with_two_crews-clause-meets
returns-in-Ok-with_two_crews-clause-meets g c =
    let first = g.S.Slots.sees c.args.shelf.now in
    let name = c.args.stimulus.now in
    let opened = c.in-Ok.ensures in
    let client : Client = record { kind = c.args.first.run.kind; profile = c.args.first.run.profile } in
    let behind : Client = record { kind = c.args.second.run.kind; profile = c.args.second.run.profile } in
    let shelf = shelf_run g.S.Slots.sees g.S.Slots.stays c.open_input.new.self c.with_two_crews.new.shelf in
    let out = sink_run g.K.Sink.took g.K.Sink.faults c.args.out.now c.with_two_crews.new.second_sink in
    met-by-kinds (known_bytes first name) c.in-Ok.slot shelf untaken out (IsSome (first.holds name)) (Rose first.faults shelf.last.faults)
    (λ t. opens-left (known_bytes first name) opened.opens (held (first.holds name) t)) (rose-none 0) (rose-before _ _ _ opened.counted)
    client behind c.in-Ok-with_two_crews.chained c.in-Ok-with_two_crews.ensures.given c.stimulus_answer.result c.stimulus_answer.ensures.is

pub returns-in-Ok-with_two_crews-clause-asked : goal.returns-in-Ok-with_two_crews-clause-asked
returns-in-Ok-with_two_crews-clause-asked g c =
    asks-all _ _ (c.args.stimulus.now ∷ []) (asks-then-kept c.in-Ok.ensures.asked
    (reads-by-kinds _ _ _ _ _ _ _ _ _ c.in-Ok-with_two_crews.ensures.given).1.asked)

pub returns-in-Err-with_two_crews-clause-meets : goal.returns-in-Err-with_two_crews-clause-meets
returns-in-Err-with_two_crews-clause-meets g c =
    meets-unchanged _ _ _ _ (ap g.K.Sink.took c.in-Err-with_two_crews.ensures.second_sink)

pub returns-in-Err-clause-earlier : goal.returns-in-Err-clause-earlier
returns-in-Err-clause-earlier g c = keeps-stay c.in-Err.ensures.slots

pub returns-in-Ok-with_two_crews-clause-earlier : goal.returns-in-Ok-with_two_crews-clause-earlier
returns-in-Ok-with_two_crews-clause-earlier g c =
    keeps-read c.in-Ok.ensures.opens (reads-by-kinds _ _ _ _ _ _ _ _ _ c.in-Ok-with_two_crews.ensures.given).1

pub returns-in-Err-with_two_crews-clause-earlier : goal.returns-in-Err-with_two_crews-clause-earlier
returns-in-Err-with_two_crews-clause-earlier g c =
    rw c.in-Err-with_two_crews.ensures.shelf (keeps-opens c.in-Ok.ensures.opens)
