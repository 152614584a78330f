use Rattle.std.proofs.Common.{◌-◌, ◌∙◌}
use Rattle.std.proofs.lemmas.Result.{err_from_is_err_and}
use Rattle.det_values.proofs.Growing.{last_extended, last_kept, added}
use Rattle.det_values.proofs.container_blocks.append_to_last.Goals as goal

pub returns : goal.returns
returns g c =
    added _ _ _ _ (last_extended c.args.blocks.now.items c.len-count.result c.index_mut-last.result.now c.append.new.self c.args.more.items
    (c.len-count.ensures ∙ c.args.blocks.now.ok.0) c.requires.blocks c.requires.room c.requires.together c.index_mut-last.ensures.value
    c.in_ok-append.ensures.items)

pub returns-in_err-append : goal.returns-in_err-append
returns-in_err-append g c =
    let p = err_from_is_err_and c.from_residual.result c.from_residual.ensures.1 in
    rw p.1 (last_kept p.0 c.args.blocks.now.items (c.len-count.result - 1) c.index_mut-last.result.now c.append.new.self _ c.requires.blocks
    c.index_mut-last.ensures.value c.in_err-append.ensures.items)
