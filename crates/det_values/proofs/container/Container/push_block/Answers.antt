use Rattle.std.proofs.Common.{length, arith, ap, ◌∙◌, ◌++◌, length-append}
use Rattle.det_values.specs.Blocks.{joined, block_items}
use Rattle.det_values.proofs.Growing.{block_behind}
use Rattle.det_values.proofs.container.Container.push_block.Goals as goal

pub invariant_of-self-then-try_push : goal.invariant_of-self-then-try_push
invariant_of-self-then-try_push g c =
    let h = block_behind c.self.inside.blocks.items c.try_push.new.items.items c.args.block c.if-last_block_has_room.ensures.no c.requires.some
    (omega (arith, c.requires.together)) c.if-try_push.ensures.yes in (
      h.blocks,
      omega (
        arith,
        ap length c.self.view_is,
        c.requires.room,
        ap length h.elements,
        length-append (joined (block_items c.self.inside.blocks.items)) c.args.block.items,
      ),
    )

pub returns-then-try_push-clause-ok : goal.returns-then-try_push-clause-ok
returns-then-try_push-clause-ok g c =
    let h = block_behind c.self.inside.blocks.items c.try_push.new.items.items c.args.block c.if-last_block_has_room.ensures.no c.requires.some
    (omega (arith, c.requires.together)) c.if-try_push.ensures.yes in
    h.elements ∙ ap (λ xs. xs ++ c.args.block.items) c.self.view_is
