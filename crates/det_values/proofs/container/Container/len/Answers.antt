use Rattle.std.proofs.Common.{length, arith, ap, ◌∙◌}
use Rattle.det_values.proofs.Blocking.{held_length, held_before}
use Rattle.det_values.proofs.container.Container.len.Goals as goal

pub overflow_mul-result : goal.overflow_mul-result
overflow_mul-result g c = omega (
  arith,
  c.self.invariant.1,
  held_before c.self.inside.blocks.items c.len-count.result (c.len-count.ensures ∙ c.self.inside.blocks.ok.0)
      (omega (arith, c.if-count-eq0.false)) c.self.invariant.0,
)

pub overflow_add-result : goal.overflow_add-result
overflow_add-result g c =
    let counted = held_length c.self.inside.blocks.items c.len-count.result c.len.result c.index.result.now
    (c.len-count.ensures ∙ c.self.inside.blocks.ok.0) (omega (arith, c.if-count-eq0.false)) c.self.invariant.0 c.index.ensures c.len.ensures in
    omega (arith, c.self.invariant.1, counted)

pub returns-clause-len : goal.returns-clause-len
returns-clause-len g c =
    let counted = held_length c.self.inside.blocks.items c.len-count.result c.len.result c.index.result.now
    (c.len-count.ensures ∙ c.self.inside.blocks.ok.0) (omega (arith, c.if-count-eq0.false)) c.self.invariant.0 c.index.ensures c.len.ensures in
    omega (arith, ap length c.self.view_is, c.self.invariant.1, counted)

pub returns-clause-most : goal.returns-clause-most
returns-clause-most g c =
    let counted = held_length c.self.inside.blocks.items c.len-count.result c.len.result c.index.result.now
    (c.len-count.ensures ∙ c.self.inside.blocks.ok.0) (omega (arith, c.if-count-eq0.false)) c.self.invariant.0 c.index.ensures c.len.ensures in
    omega (arith, c.self.invariant.1, counted)
