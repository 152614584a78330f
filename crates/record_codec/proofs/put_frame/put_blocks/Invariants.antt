use Rattle.std.specs.List.{All}
use Rattle.det_values.specs.Spelling.{spelled_all, IsDrawn}
use Rattle.record_codec.proofs.Appending.{HasPut}
use Rattle.record_codec.proofs.put_frame.put_blocks.Given as goal

abbrev pub invariant-loop-block : goal.invariant-loop-block
invariant-loop-block l = HasPut spelled_all (All IsDrawn) l.blocks l.block-index l.initial.out.items l.out.items
