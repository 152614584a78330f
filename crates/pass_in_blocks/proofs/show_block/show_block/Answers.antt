use Rattle.std.proofs.Common.{rules, ◌≡◌, ◌++◌, [], true, if◌then◌else◌, ap, sym, subst, ◌∙◌, arith}
use Rattle.job.specs.Passes.{block_in}
use Rattle.job.proofs.Sizes.{begins}
use Rattle.det_values.specs.Spelling.{spelled_all}
use Rattle.pass_in_blocks.specs.ShownElements.{shown_by}
use Rattle.pass_in_blocks.proofs.Shows.{own_done, some_done, few_elements, block_shown}
use Rattle.pass_in_blocks.proofs.show_block.show_block.Goals as goal

pub bounds-elements-0 : goal.bounds-elements-0
bounds-elements-0 g c =
    some_done g.met.J.Job.laws c.args.pass.now c.requires.ready c.args.block (begins _ _ c.requires.inside) _ c.requires.done.1

pub room_for-requires-clause-few : goal.room_for-requires-clause-few
room_for-requires-clause-few g c = omega (
  arith,
  few_elements g.met.J.Job.laws c.args.pass.now c.requires.ready c.args.block (begins _ _ c.requires.inside) _ c.requires.done.1,
)

pub overflow_cast-elements : goal.overflow_cast-elements
overflow_cast-elements g c = omega (
  arith,
  few_elements g.met.J.Job.laws c.args.pass.now c.requires.ready c.args.block (begins _ _ c.requires.inside) _ c.requires.done.1,
)

pub from_spelled-requires-clause-few : goal.from_spelled-requires-clause-few
from_spelled-requires-clause-few g c = omega (
  arith,
  few_elements g.met.J.Job.laws c.args.pass.now c.requires.ready c.args.block (begins _ _ c.requires.inside) _ c.requires.done.1,
)

pub room_for-requires-clause-own : goal.room_for-requires-clause-own
room_for-requires-clause-own g c = let t = c.args.pass.now in
    subst (λ j. g.J.Job.Own j c.index-elements-0.result) (sym c.job.ensures)
    (subst (g.J.Job.Own t.job) (sym c.index-elements-0.is)
    (own_done g.met.J.Job.laws t c.requires.ready c.args.block (begins _ _ c.requires.inside) _ c.requires.done.1 0 _
    (some_done g.met.J.Job.laws t c.requires.ready c.args.block (begins _ _ c.requires.inside) _ c.requires.done.1)))

pub from_spelled-requires-clause-spelled : goal.from_spelled-requires-clause-spelled
from_spelled-requires-clause-spelled g c = let m = g.J.Job.meaning in let t = c.args.pass.now in (
  shown_by m t c.args.block (block_in m t c.args.block),
  c.in_ok-put_block_result.ensures.bytes ∙ ap (λ old. old ++ spelled_all (shown_by m t c.args.block (block_in m t c.args.block)))
      c.in_ok-bytes.ensures,
  block_shown g.met.J.Job.laws t c.requires.ready c.args.block (begins _ _ c.requires.inside) _ c.requires.done.1,
  c.in_ok-put_block_result.ensures.fields,
)

pub returns : goal.returns
returns g c = let m = g.J.Job.meaning in let t = c.args.pass.now in
    let told : t.shows ≡ true = search rules in
    c.from_spelled.ensures (shown_by m t c.args.block (block_in m t c.args.block))
    (c.in_ok-put_block_result.ensures.bytes ∙ ap (λ old. old ++ spelled_all (shown_by m t c.args.block (block_in m t c.args.block)))
    c.in_ok-bytes.ensures)
    (block_shown g.met.J.Job.laws t c.requires.ready c.args.block (begins _ _ c.requires.inside) _ c.requires.done.1)
    c.in_ok-put_block_result.ensures.fields
    ∙ ap (λ s. if s then shown_by m t c.args.block (block_in m t c.args.block) else []) (sym told)
