use Rattle.std.proofs.Common.{arith}
use Rattle.det_values.proofs.Joining.{last_within, last_extended_by}
use Rattle.det_values.proofs.drawn_blocks.extend_drawn.Goals as goal

pub extend_spelled-requires-clause-room : goal.extend_spelled-requires-clause-room
extend_spelled-requires-clause-room c =
    let last = last_within c.args.blocks.now.items c.len-last.result _ c.index_mut.result.now c.requires.some c.len-last.ensures
    c.args.blocks.now.ok.0 c.index_mut.ensures.value in
    omega (arith, c.requires.room, last)

pub returns-clause-ok : goal.returns-clause-ok
returns-clause-ok c =
    last_extended_by c.extend_spelled.result c.args.blocks.now.items c.len-last.result _ c.index_mut.result.now c.extend_spelled.new.self
    c.args.spelled.now c.args.count c.requires.some c.len-last.ensures c.args.blocks.now.ok.0 c.index_mut.ensures.value
    c.extend_spelled.ensures.ok
