use Rattle.std.proofs.Common.{◌≡◌, ◌+◌, length, take}
use Rattle.std.specs.List.{flat_map}
use Rattle.det_values.specs.Spelling.{spelled_all}
use Rattle.recorder.specs.run_writer.Record.{counted}
use Rattle.recorder.proofs.run_writer.frame_parts.count_blocks.Given as goal

abbrev pub invariant-loop-block : goal.invariant-loop-block
invariant-loop-block l = l.bytes ≡ counted (l.before + length (flat_map spelled_all (take l.block-index l.blocks)))
