use Rattle.std.proofs.Common.{rules, ◌≡◌, ◌+◌, ◌*◌, ◌≤◌, ◌<◌, ◌∙◌, ◌++◌, Ok, length, ap, sym, subst, refl, arith}
use Rattle.job.specs.Pass.{block_size}
use Rattle.job.specs.Passes.{block_in, blocks_of, pass_result_of}
use Rattle.job.proofs.Sizes.{begins, covers}
use Rattle.pass_in_blocks.specs.BlockAnswers.{left_by}
use Rattle.pass_in_blocks.specs.ShownElements.{shown_in, frame_before}
use Rattle.pass_in_blocks.specs.Steps.{beside, first_in, CanJoin}
use Rattle.pass_in_blocks.proofs.Sound.{can_join, all_answer, next_done, refusal_answer}
use Rattle.pass_in_blocks.proofs.Shows.{frame_none, frame_next, frame_few, frame_all}
use Rattle.pass_in_blocks.proofs.pass_end.finish_pass.Goals as goal

pub join-init : goal.join-init
join-init g c = let t = c.args.pass.now in
    let none_before : block_size (length t.elements) * 0 ≡ 0 = omega arith in record {
      done = ap (first_in g.J.Job.meaning t) none_before ∙ ap Ok (sym c.in_ok-all.ensures.passed);
      shown = c.in_ok-all.ensures.shown
          ∙ sym (frame_none g.met.J.Job.laws t c.requires.ready (pass_result_of c.in_ok-all.all) c.in_ok-all.ensures.passed);
      places = search rules;
    }

pub take_or_run_block-requires-clause-inside : goal.take_or_run_block-requires-clause-inside
take_or_run_block-requires-clause-inside g c = omega (arith, c.blocks-b-end.ensures.blocks, c.join-test.true)

pub join_block-requires-clause-joins : goal.join_block-requires-clause-joins
join_block-requires-clause-joins g c =
    subst (λ j. CanJoin g.J.Job.Covers j (pass_result_of c.join.all) (left_by c.in-Done.done)) (sym c.job.ensures)
    (can_join g.met.J.Job.laws c.args.pass.now c.requires.ready c.join.b (pass_result_of c.join.all) c.join.invariant.done
    (begins _ _ (omega (arith, c.blocks-b-end.ensures.blocks, c.join-test.true)))
    (left_by c.in-Done.done) (search rules))

pub join_block-requires-clause-shown : goal.join_block-requires-clause-shown
join_block-requires-clause-shown g c = let t = c.args.pass.now in
    let came : block_in g.J.Job.meaning t c.join.b ≡ Ok (left_by c.in-Done.done) = search rules in
    let shown : c.in-Done.done.shown ≡ shown_in g.J.Job.meaning t c.join.b = search rules in
    omega (
      arith,
      ap length c.join.invariant.shown,
      ap length shown,
      frame_few g.met.J.Job.laws t c.requires.ready c.join.b
          (begins _ _ (omega (arith, c.blocks-b-end.ensures.blocks, c.join-test.true)))
          (left_by c.in-Done.done) came (pass_result_of c.join.all) c.join.invariant.done,
    )

pub returns-in-Refused : goal.returns-in-Refused
returns-in-Refused g c =
    refusal_answer g.met.J.Job.laws c.args.pass.now c.requires.ready c.join.b (pass_result_of c.join.all) c.join.invariant.done
    (begins _ _ (omega (arith, c.blocks-b-end.ensures.blocks, c.join-test.true)))
    c.in-Refused.element c.in-Refused.code (search rules)

pub join-preserved : goal.join-preserved
join-preserved g c = let t = c.args.pass.now in let d = pass_result_of c.join.all in let e = left_by c.in-Done.done in
    let inside = begins _ _ (omega (arith, c.blocks-b-end.ensures.blocks, c.join-test.true)) in
    let came : block_in g.J.Job.meaning t c.join.b ≡ Ok e = search rules in
    let shown : c.in-Done.done.shown ≡ shown_in g.J.Job.meaning t c.join.b = search rules in
    let same : pass_result_of c.join_block.new.all ≡ beside (g.J.Job.meaning.joined t.job) d e = search rules in record {
      done = next_done g.met.J.Job.laws t c.requires.ready c.join.b d c.join.invariant.done inside e
          (pass_result_of c.join_block.new.all) came same;
      shown = c.in_ok-join_block-in-Done.ensures.shown
          ∙ (λ i. c.join.invariant.shown i ++ shown i)
          ∙ sym (frame_next g.met.J.Job.laws t c.requires.ready c.join.b inside e came d c.join.invariant.done)
          ∙ ap (λ x. frame_before g.J.Job.meaning t (block_size (length t.elements) * (c.join.b + 1)) x.elements x.draws) (sym same);
      places = search rules;
    }

pub returns : goal.returns
returns g c = let t = c.args.pass.now in
    let all : length t.elements ≤ block_size (length t.elements) * c.join.b =
    let last : c.join.b ≡ blocks_of (length t.elements) =
    omega (arith, c.join-test.false, c.join.auto.b-end, c.blocks-b-end.ensures.blocks) in
    subst (λ b. length t.elements ≤ block_size (length t.elements) * b) (sym last) (covers (length t.elements)) in
    all_answer g.met.J.Job.laws t c.requires.ready c.join.b (pass_result_of c.join.all) c.join.invariant.done c.join.all refl all
    (frame_all g.met.J.Job.laws t c.requires.ready (pass_result_of c.join.all) (block_size (length t.elements) * c.join.b) all
    c.join.all.shown c.join.invariant.shown)
