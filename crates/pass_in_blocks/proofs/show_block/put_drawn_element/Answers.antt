use Rattle.pass_in_blocks.proofs.Putting.{put_fits}
use Rattle.pass_in_blocks.proofs.show_block.put_drawn_element.Goals as goal

pub returns-clause-fields : goal.returns-clause-fields
returns-clause-fields g c =
    put_fits _ _ _ _ c.in_ok-put_drawn.ensures.ok c.type_inv.out (g.met.J.Job.laws.shown_few c.args.job.now c.args.element.now c.requires)
    c.ranges.draws.fits
