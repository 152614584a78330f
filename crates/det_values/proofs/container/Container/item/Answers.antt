use Rattle.std.proofs.Common.{◌/◌, length, get_or, arith, ap, ◌∙◌, refl}
use Rattle.std.specs.Vec.{vec_len}
use Rattle.det_values.specs.Blocks.{block_items}
use Rattle.det_values.proofs.Blocking.{in_blocks, held_room, held_element, count_is}
use Rattle.det_values.proofs.container.Container.item.Goals as goal

pub index-requires : goal.index-requires
index-requires g c =
    omega (
      arith,
      in_blocks (block_items c.self.inside.blocks.items) (c.args.index / 256) c.self.invariant.0
          (omega (arith, c.requires, ap length c.self.view_is)),
      count_is c.self.inside.blocks (vec_len c.self.inside.blocks) refl,
    )

pub index-requires-2 : goal.index-requires-2
index-requires-2 g c =
    omega (
      arith,
      held_room c.self.inside.blocks.items c.args.index c.index.result.now c.self.invariant.0
          (omega (arith, c.requires, ap length c.self.view_is)) c.index.ensures,
    )

pub returns : goal.returns
returns g c =
    held_element c.self.inside.blocks.items c.args.index c.index.result.now c.index-2.result.now c.self.invariant.0
    (omega (arith, c.requires, ap length c.self.view_is)) c.index.ensures c.index-2.ensures
    ∙ ap (λ xs. get_or xs c.args.index c.index-2.result.now) c.self.view_is
