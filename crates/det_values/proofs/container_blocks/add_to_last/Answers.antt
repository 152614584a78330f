use Rattle.std.proofs.Common.{◌-◌, ◌∙◌}
use Rattle.det_values.proofs.Growing.{last_pushed, last_kept, added}
use Rattle.det_values.proofs.container_blocks.add_to_last.Goals as goal

pub returns-then-try_push : goal.returns-then-try_push
returns-then-try_push g c =
    added _ _ _ _ (last_pushed c.args.blocks.now.items c.len-count.result c.index_mut-last.result.now c.try_push.new.items c.args.item
    (c.len-count.ensures ∙ c.args.blocks.now.ok.0) c.requires.blocks c.requires.room c.index_mut-last.ensures.value
    c.if-try_push.ensures.yes)

pub returns : goal.returns
returns g c =
    last_kept _ c.args.blocks.now.items (c.len-count.result - 1) c.index_mut-last.result.now c.try_push.new.items _ c.requires.blocks
    c.index_mut-last.ensures.value c.if-try_push.ensures.no
