use Rattle.std.proofs.Common.{◌∙◌, sym, ap, subst}
use Rattle.std.proofs.lemmas.List.Elements.{All-same}
use Rattle.job.specs.Passes.{IsReady, block_in, blocks_in}
use Rattle.pass_in_blocks.specs.BlockAnswers.{AreRight, AreShown}
use Rattle.pass_in_blocks.specs.ShownElements.{shown_in}
use Rattle.worker_pool.specs.Handles.{view_of, block_count}
use Rattle.worker_pool.specs.Messages.{IsOf}
use Rattle.worker_pool.specs.Results.{Works}
use Rattle.worker_pool.proofs.Shares.{share_of}
use Rattle.worker_pool.proofs.link.work_on_task.Goals as goal

pub work_blocks-requires : goal.work_blocks-requires
work_blocks-requires g c =
    let j = g.J.Job in
    let e = sym c.pass-pass.ensures in record {
      here = c.requires.here;
      ready = subst (λ t. IsReady j.meaning j.Covers j.Own j.Fit t) e c.requires.task.ready;
      sized = c.requires.task.sized ∙ ap blocks_in e;
      new = c.requires.new;
    }

pub returns-clause-right : goal.returns-clause-right
returns-clause-right g c =
    let m = g.J.Job.meaning in
    let right = subst (λ p. AreRight (block_in m p) (blocks_in p) c.in_ok-results.results) c.pass-pass.ensures
    c.in_ok-results.ensures.right in
    let shown = subst (λ p. AreShown (shown_in m p) c.in_ok-results.results) c.pass-pass.ensures c.in_ok-results.ensures.shown in
    All-same (IsOf m c.args.task.now) _ _ c.into_vec.ensures (λ k d lt. (right k d lt, shown k d lt))

pub returns-clause-share : goal.returns-clause-share
returns-clause-share g c =
    let m = g.J.Job.meaning in
    let t = c.args.task.now in
    let v = view_of c.work_blocks.new.seat in
    share_of (block_in m t.pass) (block_count t.table) v c.in_ok-results.results c.into_vec.result.items
    (subst (λ p. Works (block_in m p) v c.in_ok-results.results) c.pass-pass.ensures c.in_ok-results.ensures.works)
    c.in_ok-results.ensures.all_tried c.into_vec.ensures
