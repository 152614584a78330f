use Rattle.std.proofs.Common.{IfOk, ◌∙◌, sym, ap, subst}
use Rattle.std.specs.List.{All}
use Rattle.std.proofs.lemmas.Result.{IfOk-weaker}
use Rattle.job.specs.Passes.{IsReady, block_in, blocks_in}
use Rattle.pass_in_blocks.specs.BlockAnswers.{IsRight, Shows}
use Rattle.pass_in_blocks.specs.ShownElements.{shown_in}
use Rattle.worker_pool.specs.Handles.{IsAt}
use Rattle.worker_pool.specs.Messages.{IsTask}
use Rattle.worker_pool.proofs.crew.shared_pass.Goals as goal

pub work_together-requires : goal.work_together-requires
work_together-requires g c =
    let j = g.J.Job in
    let made = c.in_ok-table.ensures in
    let is = sym c.in-Ok.ensures.ok in
    let same = sym c.in_ok-pass.ensures in
    record {
      room = c.requires.room;
      few = c.requires.few;
      task = subst (λ t. IsTask j.meaning j.Covers j.Own j.Fit t) is (record {
        ready = subst (λ p. IsReady j.meaning j.Covers j.Own j.Fit p) same c.requires.ready;
        sized = made.0 ∙ c.blocks-2.ensures.blocks ∙ ap (λ p. blocks_in p) same;
      });
      here = subst (λ t. IsAt c.in_ok-table.seat t.table) is made.1;
      fresh = made.2;
    }

pub returns : goal.returns
returns g c =
    let m = g.J.Job.meaning in
    let is = ap (λ t. t.pass) c.in-Ok.ensures.ok ∙ c.in_ok-pass.ensures in
    let right = subst (λ p. IfOk c.work_together.result (λ found. All (λ r. IsRight (block_in m p) (blocks_in p) r
    × Shows (shown_in m p r.block) r.answer) found.items)) is
    (IfOk-weaker c.work_together.result _ _ (λ found h. h.right) c.work_together.ensures) in
    record {
      right = IfOk-weaker c.work_together.result _ _ (λ x h k d lt. (h k d lt).0) right;
      shown = IfOk-weaker c.work_together.result _ _ (λ x h k d lt. (h k d lt).1) right;
    }
