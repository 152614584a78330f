use Rattle.std.proofs.lemmas.List.Edits.{map_over_more}
use Rattle.std.proofs.Common.{set, sym, ap, ◌∙◌}
use Rattle.det_values.specs.Frames.{all_without_draws}
use Rattle.det_values.proofs.Joining.{all_blocks_undrawn}
use Rattle.det_values.proofs.drawn_blocks.clear_block_draws.Goals as goal

pub each-preserved : goal.each-preserved
each-preserved c =
    ap (set c.each.blocks c.each.index) (c.clear_draws.ensures ∙ ap all_without_draws (sym c.index-blocks-index.is))
    ∙ map_over_more all_without_draws c.args.blocks.now c.each.blocks c.each.index c.index-blocks-index.result c.each-test.true
    c.each.invariant c.index-blocks-index.is

pub returns : goal.returns
returns c = all_blocks_undrawn c.args.blocks.now c.each.blocks c.each.index c.each-test.false c.each.invariant
