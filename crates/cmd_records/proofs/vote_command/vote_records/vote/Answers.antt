use Rattle.std.proofs.Common.{sym, ◌∙◌, arith}
use Rattle.std.proofs.lemmas.List.{length-map}
use Rattle.det_io.specs.Traffic.{sink_run}
use Rattle.cmd_records.proofs.lemmas.open_names.Copies.{texts, keeps-copies}
use Rattle.cmd_records.proofs.lemmas.vote_command.VoteMeets.{meets-voted}
use Rattle.cmd_records.proofs.lemmas.vote_command.Breaking.{unopened, vote-broke}
use Rattle.cmd_records.proofs.vote_command.vote_records.vote.Goals as goal

pub returns-clause-meets : goal.returns-clause-meets
returns-clause-meets g c =
    let last = g.S.Slots.sees c.vote.new.shelf in
    let out = sink_run g.K.Sink.took g.K.Sink.faults c.args.out.now c.vote.new.sink in
    rw c.vote_answer.ensures.is
    (meets-voted c.args.recorded.now c.deref.ensures.value c.in-Ok.ensures.opened last _ c.in-Ok.ensures.traffic.counted out c.vote.result
    c.vote.ensures.voted c.vote.ensures.shelf_traffic c.vote.ensures.sink_traffic)

pub returns-in-Err-clause-broken : goal.returns-in-Err-clause-broken
returns-in-Err-clause-broken g c fault is_known =
    let many = length-map c.args.recorded.now (λ name. name.now) in
    let some = c.requires.some in
    unopened (g.S.Slots.sees c.args.shelf.now) (g.S.Slots.sees c.open_all.new.shelf) (texts c.args.recorded.now)
    (g.K.Sink.took c.args.out.now) _ _ c.in-Err.failure (λ e. let fewer = c.in-Err.ensures.unopened e in omega (arith, fewer, many))
    (omega (arith, some, many)) (sym c.from.ensures ∙ fault)

pub returns-clause-broken : goal.returns-clause-broken
returns-clause-broken g c fault is_known =
    vote-broke c.args.recorded.now c.deref.ensures.value c.in-Ok.ensures.opened (g.S.Slots.sees c.vote.new.shelf)
    (sink_run g.K.Sink.took g.K.Sink.faults c.args.out.now c.vote.new.sink) c.vote.result c.vote.ensures.voted
    (sym c.vote_answer.ensures.is ∙ fault) is_known

pub returns-clause-earlier : goal.returns-clause-earlier
returns-clause-earlier g c =
    keeps-copies c.args.recorded.now c.deref.ensures.value c.in-Ok.ensures.opened c.in-Ok.ensures.earlier c.vote.ensures.reads
