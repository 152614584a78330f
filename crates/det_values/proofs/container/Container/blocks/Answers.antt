use Rattle.std.proofs.Common.{length, arith, ap}
use Rattle.det_values.specs.Blocks.{block_items}
use Rattle.det_values.proofs.Blocking.{length-joined, before-last, count_is}
use Rattle.det_values.proofs.container.Container.blocks.Goals as goal

pub returns-clause-enough : goal.returns-clause-enough
returns-clause-enough g c =
    omega (
      arith,
      count_is c.self.inside.blocks c.len.result c.len.ensures,
      length-joined (block_items c.self.inside.blocks.items) c.self.invariant.0,
      ap length c.self.view_is,
    )

pub returns-clause-no_more : goal.returns-clause-no_more
returns-clause-no_more g c b lt =
    omega (
      arith,
      before-last (block_items c.self.inside.blocks.items) b c.self.invariant.0
          (omega (arith, lt, count_is c.self.inside.blocks c.len.result c.len.ensures)),
      ap length c.self.view_is,
    )
