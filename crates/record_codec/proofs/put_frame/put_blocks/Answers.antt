use Rattle.std.proofs.Common.{◌++◌, List, ℕ, ap, ◌∙◌}
use Rattle.std.specs.List.{All}
use Rattle.det_values.specs.Spelling.{spelled_all, IsDrawn}
use Rattle.record_codec.proofs.Appending.{HasPut-next, HasPut-grows, HasPut-grown, HasPut-done}
use Rattle.record_codec.proofs.Flat.{blocks_spelled, blocks_drawn}
use Rattle.record_codec.proofs.put_frame.put_blocks.Goals as goal

pub returns-in_err-put_slice-clause-grows : goal.returns-in_err-put_slice-clause-grows
returns-in_err-put_slice-clause-grows c =
    HasPut-grows spelled_all (All IsDrawn) _ _ _ _ _ c.loop-block.invariant c.put_slice.ensures.grows

pub loop-block-preserved : goal.loop-block-preserved
loop-block-preserved c =
    HasPut-next spelled_all (All IsDrawn) _ _ _ _ _ _ c.loop-block-test.true c.block-item.is c.loop-block.invariant
    (c.in_ok-put_slice.ensures.ok ∙ ap (λ (xs : List ℕ). c.loop-block.out.items ++ xs) c.spelled.ensures.bytes) c.spelled.ensures.fields

pub returns-clause-ok : goal.returns-clause-ok
returns-clause-ok c =
    (HasPut-done spelled_all (All IsDrawn) _ _ _ _ c.loop-block-test.false c.loop-block.invariant).0
    ∙ ap (λ (xs : List ℕ). c.args.out.now.items ++ xs) (blocks_spelled c.args.blocks.now)

pub returns-clause-fields : goal.returns-clause-fields
returns-clause-fields c =
    blocks_drawn c.args.blocks.now
    (HasPut-done spelled_all (All IsDrawn) _ _ _ _ c.loop-block-test.false c.loop-block.invariant).1

pub returns-clause-grows : goal.returns-clause-grows
returns-clause-grows c = HasPut-grown spelled_all (All IsDrawn) _ _ _ _ c.loop-block.invariant
