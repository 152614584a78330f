use Rattle.twins.proofs.Sent.{one-sent}
use Rattle.twins.proofs.twin.Twin.send_next.Goals as goal

pub returns-in-Ok-clause-twin : goal.returns-in-Ok-clause-twin
returns-in-Ok-clause-twin g c =
    one-sent g.J.Job.meaning c.args.run.now.profile c.args.run.now.inputs (g.T.Tamper.altered c.args.run.now.tamper) c.args.queue.now
    c.args.self.now c.next_row.new.self c.in-Ok.row c.send.new.sender c.requires.twin c.next_row.ensures.keeps c.requires.more
    c.in-Ok.ensures.row c.in-Ok.ensures.made c.send.ensures.queue c.send.ensures.sent
