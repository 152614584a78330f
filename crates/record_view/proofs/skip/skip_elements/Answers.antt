use Rattle.record_view.proofs.Undrawn.{skip_undrawn}
use Rattle.record_view.proofs.skip.skip_elements.Goals as goal

pub returns : goal.returns
returns c = skip_undrawn c.args.most c.skip_drawn.result c.args.bytes.now c.skip_drawn.ensures
