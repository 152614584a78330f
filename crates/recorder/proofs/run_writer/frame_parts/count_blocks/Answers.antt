use Rattle.std.proofs.Common.{◌+◌, length, ◌∙◌, ap, arith}
use Rattle.std.specs.List.{flat_map}
use Rattle.std.proofs.lemmas.List.{take_all}
use Rattle.det_values.specs.Spelling.{spelled_all}
use Rattle.record_codec.proofs.Flat.{blocks_spelled}
use Rattle.recorder.specs.run_writer.Record.{counted}
use Rattle.recorder.proofs.run_writer.frame_parts.count_blocks.Goals as goal

pub returns : goal.returns
returns c = c.loop-block.invariant ∙ ap (λ bytes. counted (c.args.before + length bytes))
    (ap (flat_map spelled_all) (take_all c.loop-block.block-index c.args.blocks.now (omega (arith, c.loop-block-test.false)))
    ∙ blocks_spelled c.args.blocks.now)
