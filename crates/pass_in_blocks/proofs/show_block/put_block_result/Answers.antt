use Rattle.std.proofs.Common.{◌≡◌, ◌≤◌, ℕ, List, length, refl, sym, ap, ◌∙◌, subst}
use Rattle.std.specs.List.{All}
use Rattle.job.specs.Cycle.{added}
use Rattle.job.proofs.Sizes.{begins}
use Rattle.pass_in_blocks.specs.Steps.{pass_result}
use Rattle.pass_in_blocks.proofs.Adding.{length-added}
use Rattle.pass_in_blocks.proofs.Shows.{own_done, level_done, few_done, earlier_level, earlier_few, shows_sums, shows_plain}
use Rattle.pass_in_blocks.proofs.Shows.{own_same, spelled_same, both_ok}
use Rattle.pass_in_blocks.proofs.show_block.put_block_result.Goals as goal

pub put_block-requires-clause-own : goal.put_block-requires-clause-own
put_block-requires-clause-own g c = let t = c.args.pass.now in
    own_same g.J.Job.Own t.job _ c.args.elements.now _ c.job.ensures refl
    (own_done g.met.J.Job.laws t c.requires.ready c.args.block (begins _ _ c.requires.inside) _ c.requires.done.1)

pub put_block-requires-clause-drew : goal.put_block-requires-clause-drew
put_block-requires-clause-drew g c =
    level_done g.met.J.Job.laws c.args.pass.now c.requires.ready c.args.block (begins _ _ c.requires.inside) _ c.requires.done.1

pub returns-in_default : goal.returns-in_default
returns-in_default g c = let t = c.args.pass.now in
    both_ok c.put_block.result _ _ _ (λ bytes fields.
    shows_plain g.met.J.Job.laws t c.requires.ready c.args.block (begins _ _ c.requires.inside) _ c.requires.done.1
    c.args.out.now.items c.put_block.new.out.items (c.in_default.ensures.none refl)
    (spelled_same g.J.Job.meaning t.job _ c.args.elements.now c.args.elements.now c.args.draws.now c.args.draws.now _ _ c.job.ensures refl
    refl (record { bytes = bytes; fields = fields }))) c.put_block.ensures.ok c.put_block.ensures.fields

pub block_sums-requires-clause-equal : goal.block_sums-requires-clause-equal
block_sums-requires-clause-equal g c =
    ap length c.in-Some.ensures.some.0
    ∙ earlier_level g.met.J.Job.laws c.args.pass.now c.requires.ready c.args.block (begins _ _ c.requires.inside) _ c.requires.done.1
    c.in-Some.ensures.some.1

pub block_sums-requires-clause-left : goal.block_sums-requires-clause-left
block_sums-requires-clause-left g c =
    subst (λ (xs : List ℕ). All (λ n. n ≤ 458745) xs) (sym c.in-Some.ensures.some.0)
    (earlier_few g.met.J.Job.laws c.args.pass.now c.requires.ready c.args.block (begins _ _ c.requires.inside) _ c.requires.done.1
    c.in-Some.ensures.some.1)

pub block_sums-requires-clause-right : goal.block_sums-requires-clause-right
block_sums-requires-clause-right g c =
    few_done g.met.J.Job.laws c.args.pass.now c.requires.ready c.args.block (begins _ _ c.requires.inside) _ c.requires.done.1

pub put_block-requires-2-clause-own : goal.put_block-requires-2-clause-own
put_block-requires-2-clause-own g c = let t = c.args.pass.now in
    own_same g.J.Job.Own t.job _ c.args.elements.now _ c.job-2.ensures refl
    (own_done g.met.J.Job.laws t c.requires.ready c.args.block (begins _ _ c.requires.inside) _ c.requires.done.1)

pub put_block-requires-2-clause-drew : goal.put_block-requires-2-clause-drew
put_block-requires-2-clause-drew g c = let t = c.args.pass.now in
    let equal : length c.in-Some.earlier.now ≡ length c.args.draws.now =
    ap length c.in-Some.ensures.some.0
    ∙ earlier_level g.met.J.Job.laws t c.requires.ready c.args.block (begins _ _ c.requires.inside) _ c.requires.done.1
    c.in-Some.ensures.some.1 in
    ap length (c.as_slice.ensures.value ∙ c.in_ok-draw_sums.ensures) ∙ length-added _ _ equal ∙ equal
    ∙ level_done g.met.J.Job.laws t c.requires.ready c.args.block (begins _ _ c.requires.inside) _ c.requires.done.1

pub returns : goal.returns
returns g c = let t = c.args.pass.now in
    shows_sums g.met.J.Job.laws t c.requires.ready c.args.block (begins _ _ c.requires.inside) _ c.requires.done.1
    c.in-Some.ensures.some.1 c.in_ok-draw_sums.draw_sums.items c.args.out.now.items c.put_block-2.new.out.items
    (c.in_ok-draw_sums.ensures ∙ ap (λ xs. added xs c.args.draws.now) c.in-Some.ensures.some.0)
    (spelled_same g.J.Job.meaning t.job _ c.args.elements.now c.args.elements.now _ _ _ _ c.job-2.ensures refl
    c.as_slice.ensures.value (record { bytes = c.in_ok-put_block.ensures.ok; fields = c.in_ok-put_block.ensures.fields }))
