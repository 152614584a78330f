use Rattle.std.proofs.Common.{◌≡◌, ◌++◌, map, take, drop}
use Rattle.det_values.specs.Frames.{all_without_draws}
use Rattle.det_values.proofs.drawn_blocks.clear_block_draws.Given as goal

abbrev pub invariant-each : goal.invariant-each
invariant-each l = l.blocks ≡ map all_without_draws (take l.index l.fn.blocks) ++ drop l.index l.fn.blocks
