use Rattle.std.proofs.Common.{◌∙◌, ap, sym, subst}
use Rattle.worker_pool.specs.Messages.{HasFound}
use Rattle.worker_pool.proofs.links.work_together.Goals as goal

pub collect_replies-requires-clause-found : goal.collect_replies-requires-clause-found
collect_replies-requires-clause-found g c =
    let made = c.in_ok-found.ensures in
    subst (λ t. HasFound g.J.Job.meaning t c.work_on_task.new.seat c.in_ok-found.found.items) (c.deref-3.ensures ∙ sym c.deref-4.ensures)
    (record {
      here = made.seat.0 ∙ c.give_all-given.ensures.seat.0 ∙ c.requires.here ∙ ap (λ t. t.table.table.shared.table_id) (sym c.deref-3.ensures);
      right = made.right;
      share = made.share;
    })

pub returns : goal.returns
returns g c =
    subst (λ t. HasFound g.J.Job.meaning t c.collect_replies.new.seat c.collect_replies.new.found.items) c.deref-4.ensures
    c.in_ok-collect_replies.ensures
