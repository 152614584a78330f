use Rattle.std.proofs.Common.{◌∷◌, [], arith}
use Rattle.det_values.specs.Spelling.{an_element}
use Rattle.det_values.proofs.Joining.{last_within, last_extended}
use Rattle.det_values.proofs.drawn_blocks.push_drawn.Goals as goal

pub push-requires-clause-room : goal.push-requires-clause-room
push-requires-clause-room c =
    let last = last_within c.args.blocks.now.items c.len-last.result _ c.index_mut.result.now c.requires.some c.len-last.ensures
    c.args.blocks.now.ok.0 c.index_mut.ensures.value in
    omega (arith, c.requires.room, last)

pub returns-clause-ok : goal.returns-clause-ok
returns-clause-ok c =
    last_extended c.push.result c.args.blocks.now.items c.len-last.result _ c.index_mut.result.now c.push.new.self
    (an_element c.args.bytes.now c.args.draws ∷ []) c.requires.some c.len-last.ensures c.args.blocks.now.ok.0 c.index_mut.ensures.value
    c.push.ensures.ok
