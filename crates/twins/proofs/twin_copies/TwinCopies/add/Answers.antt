use Rattle.std.proofs.Common.{refl, sym, ap, ◌∙◌, subst}
use Rattle.frame_queue.specs.Queues.{sent_of, IsSenderOf}
use Rattle.twins.proofs.Begun.{one-begun}
use Rattle.twins.proofs.Sent.{none-sent}
use Rattle.twins.proofs.twin_copies.TwinCopies.add.Goals as goal

pub returns : goal.returns
returns g c =
    let twin = c.in_ok-twin.twin in
    let rest = c.in_ok-twin.ensures.rest in
    one-begun g.J.Job.meaning c.args.run.now.profile c.args.run.now.inputs (g.T.Tamper.altered c.args.run.now.tamper) c.args.copy
    c.args.self.now
    (record { queues = c.push.new.items; twins = c.push-2.new.items; intakes = c.push-3.new.items }) c.in_ok-queue.queue twin
    (record { receiver = c.in_ok-queue.receiver; rows = 0 }) c.requires.copies
    c.in_ok-push.ensures c.in_ok-push-2.ensures c.in_ok-push-3.ensures
    (none-sent g.J.Job.meaning c.args.run.now.profile c.args.run.now.inputs
    (g.T.Tamper.altered c.args.run.now.tamper) c.in_ok-queue.queue twin
    (subst (λ s. IsSenderOf c.in_ok-queue.queue s) (sym (ap (λ t. t.sender) rest)) c.in_ok-queue.ensures.sender)
    (ap (λ t. sent_of t.sender) rest ∙ c.in_ok-queue.ensures.sent) (ap (λ t. t.number) rest) c.in_ok-twin.ensures.engine)
    (ap (λ t. t.copy) rest) c.in_ok-queue.ensures.receiver refl c.in_ok-queue.ensures.taken
