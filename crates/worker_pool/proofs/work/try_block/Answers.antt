use Rattle.std.proofs.Common.{Bool, ◌≡◌, ◌<◌, length, true≢false, refl, sym, ap, ◌∙◌, inl, inr, arith}
use Rattle.std.proofs.lemmas.List.Elements.{All-push, All-same}
use Rattle.job.specs.Passes.{block_in}
use Rattle.job.proofs.Sizes.{few_blocks}
use Rattle.pass_in_blocks.specs.BlockAnswers.{Shows}
use Rattle.pass_in_blocks.specs.declared.block_answer.BlockResult.{BlockResult}
use Rattle.pass_in_blocks.specs.ShownElements.{shown_in}
use Rattle.worker_pool.specs.declared.pool_view.Mark.TheVariants.{Reported, Skipped}
use Rattle.worker_pool.specs.Handles.{view_of}
use Rattle.worker_pool.specs.Views.{with_mark, mark_after}
use Rattle.worker_pool.proofs.Done.{taken_stands, mark_stands, works_passed, works_skipped, works_marked, room}
use Rattle.worker_pool.proofs.work.try_block.Goals as goal

pub returns-in_default-clause-works : goal.returns-in_default-clause-works
returns-in_default-clause-works g c =
    works_passed (block_in g.J.Job.meaning c.args.pass.now) (view_of c.args.seat.now) _ _ c.requires.so_far c.in_default.ensures.answer.1

pub look-requires-clause-open : goal.look-requires-clause-open
look-requires-clause-open g c = let a = c.in-Some.ensures.answer in taken_stands (view_of c.args.seat.now)
    (view_of c.claim.new.seat) _ _ a.0 a.2 refl

pub returns-then-look-clause-works : goal.returns-then-look-clause-works
returns-then-look-clause-works g c =
    let a = c.in-Some.ensures.answer in
    let e : view_of c.look.new.seat ≡ _ = (c.look.ensures.skipped c.if-look.true).0 in
    works_skipped (block_in g.J.Job.meaning c.args.pass.now) (view_of c.args.seat.now) (view_of c.claim.new.seat)
    (view_of c.look.new.seat) c.in-Some.block _ c.requires.so_far a.0 a.2 e

pub returns-then-look-clause-stops : goal.returns-then-look-clause-stops
returns-then-look-clause-stops g c goes =
    let a = c.in-Some.ensures.answer in
    let e : view_of c.look.new.seat ≡ _ = (c.look.ensures.skipped c.if-look.true).0 in (
      (view_of c.args.seat.now).seen,
      inr (mark_stands Skipped (view_of c.args.seat.now) (view_of c.claim.new.seat)
          (view_of c.claim.new.seat) (view_of c.look.new.seat) c.in-Some.block c.requires.so_far.tidy.below a.0 a.2 refl e),
    )

pub push-requires : goal.push-requires
push-requires g c =
    let r = room (block_in g.J.Job.meaning c.args.pass.now) (view_of c.args.seat.now) _ c.requires.so_far in
    let few = few_blocks (length c.args.pass.now.elements) c.requires.ready.few in
    let sized = c.requires.sized in let more = c.requires.more in
    let small : length c.args.results.now < 256 = omega (arith, r, few) in (omega arith, small)

pub end_block-requires-clause-open : goal.end_block-requires-clause-open
end_block-requires-clause-open g c =
    let a = c.in-Some.ensures.answer in
    let e : view_of c.look.new.seat ≡ view_of c.claim.new.seat = (c.look.ensures.stays (λ t. true≢false (sym t ∙ c.if-look.false))).0 in
    taken_stands (view_of c.args.seat.now) (view_of c.claim.new.seat) _ _ a.0 a.2 e

pub returns-clause-works : goal.returns-clause-works
returns-clause-works g c =
    let a = c.in-Some.ensures.answer in
    let e : view_of c.look.new.seat ≡ view_of c.claim.new.seat = (c.look.ensures.stays (λ t. true≢false (sym t ∙ c.if-look.false))).0 in
    works_marked (block_in g.J.Job.meaning c.args.pass.now) c.is_refusal-refused.result (view_of c.args.seat.now) (view_of c.claim.new.seat)
    (view_of c.look.new.seat) (view_of c.end_block.new.seat) c.in-Some.block _ _ c.in_ok-answer.answer
    c.requires.so_far a.0 a.2 e c.end_block.ensures.view
    c.in_ok-answer.ensures.answer c.in_ok-push.ensures.ok c.is_refusal-refused.ensures

pub returns-clause-stops : goal.returns-clause-stops
returns-clause-stops g c goes =
    let a = c.in-Some.ensures.answer in
    let e : view_of c.look.new.seat ≡ view_of c.claim.new.seat = (c.look.ensures.stays (λ t. true≢false (sym t ∙ c.if-look.false))).0 in
    let view = c.end_block.ensures.view
    ∙ ap (λ (refused : Bool). with_mark c.in-Some.block (mark_after refused) (view_of c.look.new.seat)) (c.end_block.ensures.stops goes) in (
      (view_of c.args.seat.now).seen,
      inl (mark_stands Reported (view_of c.args.seat.now) (view_of c.claim.new.seat)
          (view_of c.look.new.seat) (view_of c.end_block.new.seat) c.in-Some.block c.requires.so_far.tidy.below a.0 a.2 e view),
    )

pub returns-clause-shown : goal.returns-clause-shown
returns-clause-shown g c = let P : BlockResult _ _ → Type 0 = λ r. Shows (shown_in g.J.Job.meaning c.args.pass.now r.block) r.answer in
    All-same P _ _ c.in_ok-push.ensures.ok (All-push P _ _ c.requires.shown c.in_ok-answer.ensures.shown)
