use Rattle.std.proofs.Common.{◌++◌, ◌∷◌, [], ◌∙◌, ap}
use Rattle.det_values.proofs.Growing.{block_pushed, added}
use Rattle.det_values.proofs.container_blocks.add_block.Goals as goal

pub returns-then-try_push : goal.returns-then-try_push
returns-then-try_push g c =
    added _ _ _ _ (block_pushed c.args.blocks.now.items c.try_push-2.new.items.items c.try_push.new.items c.args.item c.requires.full
    c.if-try_push.ensures.yes
    (c.if-not-try_push.ensures.yes ∙ ap (λ xs. xs ++ c.args.item ∷ []) c.new-block.ensures.items))
