use Rattle.std.proofs.Common.{◌*◌, length, take, drop, arith, ap, ◌∙◌, refl}
use Rattle.std.specs.Vec.{vec_len}
use Rattle.det_values.specs.Blocks.{block_items}
use Rattle.det_values.proofs.Blocking.{in_blocks, held_block, count_is}
use Rattle.det_values.proofs.container.Container.block.Goals as goal

pub index-requires : goal.index-requires
index-requires g c =
    omega (
      arith,
      in_blocks (block_items c.self.inside.blocks.items) c.args.number c.self.invariant.0
          (omega (arith, c.requires, ap length c.self.view_is)),
      count_is c.self.inside.blocks (vec_len c.self.inside.blocks) refl,
    )

pub returns : goal.returns
returns g c =
    c.as_slice.ensures.value
    ∙ held_block c.self.inside.blocks.items c.args.number c.index.result.now c.self.invariant.0
    (omega (arith, c.requires, ap length c.self.view_is)) c.index.ensures
    ∙ ap (λ xs. take 256 (drop (256 * c.args.number) xs)) c.self.view_is
