use Rattle.det_io.proofs.Counts.{rose-none}
use Rattle.cmd_records.proofs.lemmas.command_ends.Meeting.{discarded}
use Rattle.cmd_records.proofs.lemmas.open_names.Copies.{keeps-copies}
use Rattle.cmd_records.proofs.lemmas.vote_command.VoteMeets.{meets-dissent, meets-unprinted}
use Rattle.cmd_records.proofs.vote_command.vote_records.vote_dissent.Goals as goal

pub returns-in-Ok-vote-clause-meets : goal.returns-in-Ok-vote-clause-meets
returns-in-Ok-vote-clause-meets g c =
    meets-dissent c.args.recorded.now c.deref.ensures.value c.in-Ok.ensures.opened (g.S.Slots.sees c.vote.new.shelf) (Unit {0})
    c.in-Ok.ensures.traffic.counted discarded c.in-Ok-vote.vote c.in-Ok-vote.ensures.voted c.print_dissent.ensures.meets

pub returns-clause-meets : goal.returns-clause-meets
returns-clause-meets g c =
    let e = c.in-Err-vote.ensures in
    rw c.vote_answer.ensures.is
    (meets-unprinted c.args.recorded.now c.deref.ensures.value c.in-Ok.ensures.opened (g.S.Slots.sees c.vote.new.shelf) _
    c.in-Ok.ensures.traffic.counted discarded c.in-Err-vote.stop e.voted e.shelf_traffic e.sink_traffic (λ r. rose-none 0 r))

pub returns-in-Ok-vote-clause-earlier : goal.returns-in-Ok-vote-clause-earlier
returns-in-Ok-vote-clause-earlier g c =
    keeps-copies c.args.recorded.now c.deref.ensures.value c.in-Ok.ensures.opened c.in-Ok.ensures.earlier c.vote.ensures.reads

pub returns-clause-earlier : goal.returns-clause-earlier
returns-clause-earlier g c =
    keeps-copies c.args.recorded.now c.deref.ensures.value c.in-Ok.ensures.opened c.in-Ok.ensures.earlier c.vote.ensures.reads
