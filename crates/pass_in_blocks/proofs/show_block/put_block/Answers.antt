use Rattle.std.proofs.Common.{refl}
use Rattle.pass_in_blocks.proofs.Spelled.{one_more}
use Rattle.pass_in_blocks.proofs.show_block.put_block.Goals as goal

pub loop-i-preserved : goal.loop-i-preserved
loop-i-preserved g c =
    one_more g.J.Job.meaning c.args.job.now c.args.elements.now c.args.draws.now c.loop-i.i _ _ _ _ _ c.loop-i-test.true c.requires.drew
    c.index-elements-i.is refl c.loop-i.invariant c.in_ok-put_drawn_element.ensures.fields c.in_ok-put_drawn_element.ensures.ok
