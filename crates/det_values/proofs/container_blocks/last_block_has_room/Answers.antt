use Rattle.std.proofs.Common.{arith, ◌∙◌}
use Rattle.det_values.proofs.Growing.{full_then}
use Rattle.det_values.proofs.container_blocks.last_block_has_room.Goals as goal

pub returns-clause-no : goal.returns-clause-no
returns-clause-no g c =
    full_then c.args.blocks.now.items c.len-count.result c.index.result.now (c.len-count.ensures ∙ c.args.blocks.now.ok.0)
    (omega (arith, c.if-count-eq0.false)) c.requires c.index.ensures
    (omega (arith, c.len.ensures, c.index.result.now.ok.0, c.if-len-lt256.false))
