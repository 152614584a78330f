use Rattle.std.proofs.Common.{◌++◌, ◌∙◌, ap, length, arith}
use Rattle.det_values.specs.Blocks.{joined}
use Rattle.det_values.proofs.Joining.{joined_behind, counted_behind}
use Rattle.det_values.proofs.drawn_elements.DrawnElements.push_block.Goals as goal

pub invariant_of-self-2 : goal.invariant_of-self-2
invariant_of-self-2 c = (
  counted_behind c.add_block.new.blocks.items c.self.inside.blocks.items c.args.block c.self.inside.count c.len-more.result
      c.in_ok-add_block.ensures.ok c.self.invariant.0 c.len-more.ensures.len,
  omega (arith, c.requires, c.self.invariant.0, ap length c.self.view_is, c.len-more.ensures.len),
)

pub returns-clause-ok : goal.returns-clause-ok
returns-clause-ok c =
    ap joined c.in_ok-add_block.ensures.ok ∙ joined_behind c.self.inside.blocks.items c.args.block
    ∙ ap (λ xs. xs ++ c.args.block) c.self.view_is
