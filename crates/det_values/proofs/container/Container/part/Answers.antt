use Rattle.std.proofs.Common.{◌≡◌, ◌+◌, ◌-◌, ◌/◌, ◌%◌, min, length, take, drop, arith, ap, ◌∙◌, refl}
use Rattle.std.specs.Vec.{vec_len}
use Rattle.det_values.specs.Blocks.{block_items}
use Rattle.det_values.proofs.Blocking.{in_blocks, held_room, held_at, part_is, count_is}
use Rattle.det_values.proofs.container.Container.part.Goals as goal

pub index-requires : goal.index-requires
index-requires g c =
    omega (
      arith,
      in_blocks (block_items c.self.inside.blocks.items) (c.args.first / 256) c.self.invariant.0
          (omega (arith, c.requires.inside, ap length c.self.view_is)),
      count_is c.self.inside.blocks (vec_len c.self.inside.blocks) refl,
    )

pub offset_bounds-block-at : goal.offset_bounds-block-at
offset_bounds-block-at g c =
    omega (
      arith,
      c.as_slice-block.ensures.len,
      held_room c.self.inside.blocks.items c.args.first c.index.result.now c.self.invariant.0
          (omega (arith, c.requires.inside, ap length c.self.view_is)) c.index.ensures,
    )

pub slice_bounds-result-count : goal.slice_bounds-result-count
slice_bounds-result-count g c = omega (arith, c.min.ensures, offset_bounds-block-at g c)

pub slice_bounds-result-start : goal.slice_bounds-result-start
slice_bounds-result-start g c = omega (arith, c.min.ensures, offset_bounds-block-at g c)

pub returns : goal.returns
returns g c =
    let shortest : c.min.result ≡ min (length c.as_slice-block.result.now) (c.args.first % 256 + c.args.most) =
    omega (arith, c.min.ensures, c.as_slice-block.ensures.len) in
    let block = c.as_slice-block.ensures.value ∙ held_at c.self.inside.blocks.items (c.args.first / 256) c.index.result.now
    (omega (
      arith,
      in_blocks (block_items c.self.inside.blocks.items) (c.args.first / 256) c.self.invariant.0
          (omega (arith, c.requires.inside, ap length c.self.view_is)),
      count_is c.self.inside.blocks (vec_len c.self.inside.blocks) refl,
      c.self.inside.blocks.ok.0,
    )) c.index.ensures in
    ap (λ k. take (k - c.args.first % 256) (drop (c.args.first % 256) c.as_slice-block.result.now)) shortest
    ∙ part_is (block_items c.self.inside.blocks.items) c.args.first c.args.most c.as_slice-block.result.now c.self.invariant.0
    (omega (arith, c.requires.inside, ap length c.self.view_is)) c.requires.together block
    ∙ ap (λ xs. take c.args.most (drop c.args.first xs)) c.self.view_is
