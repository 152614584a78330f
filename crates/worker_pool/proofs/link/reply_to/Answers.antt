use Rattle.std.proofs.Common.{[], ◌∷◌, ap, sym, ◌∙◌}
use Rattle.worker_pool.proofs.Shares.{replied}
use Rattle.worker_pool.proofs.link.reply_to.Goals as goal

pub returns-clause-reply : goal.returns-clause-reply
returns-clause-reply g c =
    let t = c.deref.result.now in
    let same = sym c.deref.ensures in
    let made = c.work_on_task-results.ensures in
    replied g.J.Job.meaning c.args.work.ticket.work t c.work_on_task-results.new.seat c.work_on_task-results.result
    (c.requires.same ∙ ap (λ t. t ∷ []) same)
    (made.seat.0 ∙ c.requires.here ∙ ap (λ t. t.table.table.shared.table_id) same) made.right made.share
