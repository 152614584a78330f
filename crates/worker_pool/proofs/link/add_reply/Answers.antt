use Rattle.std.proofs.Common.{◌∙◌}
use Rattle.std.proofs.lemmas.List.Elements.{All-append, All-same}
use Rattle.std.proofs.lemmas.Result.{on_ok_weaker}
use Rattle.job.specs.Passes.{block_in}
use Rattle.worker_pool.specs.Handles.{view_of, block_count}
use Rattle.worker_pool.specs.Messages.{IsOf}
use Rattle.worker_pool.proofs.Shares.{brought, share_joined}
use Rattle.worker_pool.proofs.link.add_reply.Goals as goal

pub join-requires-clause-other : goal.join-requires-clause-other
join-requires-clause-other g c = (c.requires.reply c.args.task.now (c.check.ensures.known c.requires.present ∙ c.requires.announced)).0

pub returns-clause-found : goal.returns-clause-found
returns-clause-found g c =
    let t = c.args.task.now in
    let P = IsOf g.J.Job.meaning t in
    let b = brought g.J.Job.meaning c.args.reply.ticket.work t c.args.reply.seat c.args.reply.results
    c.in-Ok.results c.requires.reply (c.check.ensures.known c.requires.present ∙ c.requires.announced) c.in-Ok.is in
    on_ok_weaker c.add_results.result (λ e. record {
      here = c.join.ensures.0.0 ∙ c.requires.found.here;
      right = All-same P _ _ e (All-append P _ _ c.requires.found.right b.0);
      share = share_joined (block_in g.J.Job.meaning t.pass) (block_count t.table) (view_of c.args.seat.now)
          (view_of c.args.reply.seat) (view_of c.join.new.seat) _ _ _ c.requires.found.share b.1 c.join.ensures.1 e;
    }) c.add_results.ensures
