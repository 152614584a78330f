use Rattle.std.proofs.Common.{rules, ◌∙◌, subst, ap, arith}
use Rattle.std.proofs.lemmas.List.{take_all}
use Rattle.std.specs.List.{flat_map}
use Rattle.det_values.specs.Spelling.{spelled_all}
use Rattle.det_io.specs.Sink.{Grew, GrewShort}
use Rattle.det_io.proofs.Answered.{on-err}
use Rattle.record_codec.proofs.Flat.{blocks_spelled}
use Rattle.recorder.proofs.lemmas.run_writer.Parting.{piece-written, piece-short}
use Rattle.recorder.proofs.run_writer.frame_parts.write_blocks.Goals as goal

pub loop-block-preserved : goal.loop-block-preserved
loop-block-preserved g c = record {
  grew = piece-written spelled_all c.args.blocks.now c.loop-block.block-index c.block-item.result c.loop-block-test.true c.block-item.is _ _
      _
      c.loop-block.invariant.grew (subst (λ bytes. Grew (g.K.Sink.took c.loop-block.sink) (g.K.Sink.took c.write_all.new.sink) bytes)
      c.spelled.ensures.bytes c.in_ok-write_all.ensures.all);
  counted = search rules;
}

pub returns-in_err-write_all-clause-short : goal.returns-in_err-write_all-clause-short
returns-in_err-write_all-clause-short g c =
    on-err _ (subst (GrewShort (g.K.Sink.took c.args.sink.now) (g.K.Sink.took c.write_all.new.sink)) (blocks_spelled c.args.blocks.now)
    (piece-short spelled_all c.args.blocks.now c.loop-block.block-index c.block-item.result c.loop-block-test.true c.block-item.is _ _ _
    c.loop-block.invariant.grew (subst (λ bytes. GrewShort (g.K.Sink.took c.loop-block.sink) (g.K.Sink.took c.write_all.new.sink) bytes)
    c.spelled.ensures.bytes c.in_err-write_all.ensures.short)))

pub returns-clause-all : goal.returns-clause-all
returns-clause-all g c =
    subst (Grew (g.K.Sink.took c.args.sink.now) (g.K.Sink.took c.loop-block.sink))
    (ap (flat_map spelled_all) (take_all c.loop-block.block-index c.args.blocks.now (omega (arith, c.loop-block-test.false)))
    ∙ blocks_spelled c.args.blocks.now)
    c.loop-block.invariant.grew
